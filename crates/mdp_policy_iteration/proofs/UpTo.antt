-- Computations that end at the first refusal, from what is known of each number.
use Rattle.std.proofs.Common.{◌≡◌, ℕ, zero, suc, ◌+◌, ◌<◌, ◌≤◌, Bool, true, List, length, take, get_or, Result, Ok, refl, sym, ◌∙◌, ap, arith}
use Rattle.std.proofs.lemmas.List.{take_more, take_all}
use Rattle.mdp_policy_iteration.specs.Places.{up_to, all_pass}
use Rattle.mdp_policy_iteration.proofs.{Answering.{up_to-more}, Results.{all_pass-more}}

module _ {A R : Type 0} (f : ℕ → Result A R) (xs : List A) (d : A) where
  -- as many as are made are an initial part of the list
  pub up_to-part : (n : ℕ) → n ≤ length xs → ((s : ℕ) → s < n → f s ≡ Ok (get_or xs s d)) → up_to f n ≡ Ok (take n xs)
  up_to-part zero l h = refl
  up_to-part (suc n) l h =
      let e : suc n ≡ n + 1 = omega arith in
      up_to-more f n (suc n) (take n xs) (get_or xs n d) (up_to-part n (omega arith) (λ s k. h s (omega arith))) (h n (omega arith)) refl
      ∙ ap Ok (sym (take_more xs n d (omega arith)) ∙ ap (λ k. take k xs) (sym e))

  pub up_to-from : (n : ℕ) → length xs ≡ n → ((s : ℕ) → s < n → f s ≡ Ok (get_or xs s d)) → up_to f n ≡ Ok xs
  up_to-from n e h = up_to-part n (omega arith) h ∙ ap Ok (take_all n xs (omega arith))

pub all_pass-from : {R : Type 0} (test : ℕ → Bool) (place : ℕ → R) (n : ℕ) → ((s : ℕ) → s < n → test s ≡ true) → all_pass test place n ≡ Ok true
all_pass-from test place zero h = refl
all_pass-from test place (suc n) h = all_pass-more test place n (suc n) (all_pass-from test place n (λ s l. h s (omega arith))) (h n (omega arith)) refl
