-- Rewards, judged one after the other.
use Rattle.std.proofs.Common.{◌≡◌, ℕ, zero, suc, ◌+◌, ◌<◌, ◌≤◌, List, [], ◌∷◌, ◌++◌, drop, get_or, length, map, Result, Ok, Err, refl, sym, ap, ◌∙◌, append_assoc, arith}
use Rattle.std.proofs.{Common.{IfOk}, Math.ListN.{get_or-map}, lemmas.List.{append-nil, length-map}}
use Rattle.mdp_drn.specs.{declared.line_error.LineError.{LineError}, Parsing.{Says}, declared.error.DrnKind.{DrnKind}, Outcome.{◌>>=◌}}
use Rattle.mdp_drn.specs.Values.{reward_of, each_reward, trimmed}
use Rattle.mdp_math.specs.Rational.{ℚ}
use Rattle.std.specs.Borrow.{Bor}
use Rattle.mdp_drn.proofs.LinesRead.Listing.{map-at}

-- the rewards of these texts, where those of all texts begin with the rewards so far
abbrev pub RewardsFrom : List (List ℕ) → List (List ℕ) → List ℚ → Type 0
RewardsFrom all texts done = each_reward all ≡ (each_reward texts >>= λ others. Ok (done ++ others))

pub one_done : (all texts : List (List ℕ)) (text : List ℕ) (done : List ℚ) (v : ℚ) → reward_of text ≡ Ok v → RewardsFrom all (text ∷ texts) done → RewardsFrom all texts (done ++ v ∷ [])
one_done all texts text done v is so_far =
    so_far ∙ ap (λ (r : Result ℚ DrnKind). (r >>= λ first. each_reward texts >>= λ others. Ok (first ∷ others)) >>= λ others. Ok (done ++ others)) is ∙ by (each_reward texts)
  where
    by : (r : Result (List ℚ) DrnKind) → ((r >>= λ others. Ok (v ∷ others)) >>= λ others. Ok (done ++ others)) ≡ (r >>= λ others. Ok ((done ++ v ∷ []) ++ others))
    by (Ok xs) = ap (λ (ys : List ℚ). Ok ys) (sym (append_assoc done (v ∷ []) xs))
    by (Err e) = refl

pub one_fails : (all texts : List (List ℕ)) (text : List ℕ) (done : List ℚ) (e : DrnKind) → reward_of text ≡ Err e → RewardsFrom all (text ∷ texts) done → each_reward all ≡ Err e
one_fails all texts text done e is so_far = so_far ∙ ap (λ (r : Result ℚ DrnKind). (r >>= λ first. each_reward texts >>= λ others. Ok (first ∷ others)) >>= λ others. Ok (done ++ others)) is

pub all_done : (all : List (List ℕ)) (done : List ℚ) → RewardsFrom all [] done → each_reward all ≡ Ok done
all_done all done so_far = so_far ∙ ap (λ (ys : List ℚ). Ok ys) (append-nil done)

-- ---- by place

-- the texts between the commas, without the blanks at their ends
abbrev pub texts_of : List (Bor (List ℕ)) → List (List ℕ)
texts_of texts = map trimmed (map (λ text. text.now) texts)

pub texts-at : (texts : List (Bor (List ℕ))) (i : ℕ) (d : Bor (List ℕ)) → i < length texts → drop i (texts_of texts) ≡ trimmed (get_or texts i d).now ∷ drop (i + 1) (texts_of texts)
texts-at texts i d lt =
    let now : Bor (List ℕ) → List ℕ = λ text. text.now in
    map-at trimmed (map now texts) i d.now (rw (length-map texts now) lt) ∙ ap (λ (text : List ℕ). trimmed text ∷ drop (i + 1) (texts_of texts)) (get_or-map now texts i d)

pub texts-none : (texts : List (Bor (List ℕ))) (i : ℕ) → length texts ≤ i → drop i (texts_of texts) ≡ []
texts-none [] zero le = refl
texts-none [] (suc i) le = refl
texts-none (x ∷ xs) zero le = absurd (omega arith)
texts-none (x ∷ xs) (suc i) le = texts-none xs i (omega arith)

-- ---- how many there are

pub count-rewards : (all : List (List ℕ)) (values : List ℚ) → each_reward all ≡ Ok values → length values ≡ length all
count-rewards [] values is = let e : [] ≡ values = cc in rw (← e) refl
count-rewards (text ∷ texts) values is = by (reward_of text) (each_reward texts) (count-rewards texts) is
  where
    by : (first : Result ℚ DrnKind) (others : Result (List ℚ) DrnKind) → ((xs : List ℚ) → others ≡ Ok xs → length xs ≡ length texts)
        → (first >>= λ x. others >>= λ xs. Ok (x ∷ xs)) ≡ Ok values → length values ≡ length (text ∷ texts)
    by (Ok x) (Ok xs) rest h = let e : x ∷ xs ≡ values = cc in rw (← e) (ap (λ (n : ℕ). suc n) (rest xs refl))
    by (Ok x) (Err e) rest h = absurd cc
    by (Err e) others rest h = absurd cc

pub length-texts : (texts : List (Bor (List ℕ))) → length (texts_of texts) ≡ length texts
length-texts [] = refl
length-texts (x ∷ xs) = ap (λ (n : ℕ). suc n) (length-texts xs)

-- those that are read are as many as the texts
pub count-read : (texts : List (Bor (List ℕ))) (n : ℕ) (r : Result (Unit {0}) LineError) (values : List ℚ)
    → length texts ≡ n → Says (λ _. values) r (each_reward (texts_of texts)) → IfOk r (λ _. length values ≡ n)
count-read texts n (Ok x) values is said = count-rewards (texts_of texts) values said ∙ length-texts texts ∙ is
count-read texts n (Err e) values is said = tt
