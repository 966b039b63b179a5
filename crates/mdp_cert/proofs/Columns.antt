-- What a claim shows of its words, and the words of each claim.
use Rattle.std.proofs.Common.{◌≡◌, ℕ, ◌<◌, ◌≤◌, ◌^◌, Bool, true, false, cond, eqb, List, length, decimal, Option, Some, None, refl, sym, ap, subst, ◌∙◌, arith}
use Rattle.std.proofs.{lemmas.Bool.Decides.{nat_tests}}
use Rattle.std.specs.{Prelude.{codes}, Str.{bytes_eq}, Option.{option_and_then, option_map}}
use Rattle.mdp_math.specs.Rational.{ℚ}
use Rattle.mdp_num.specs.{Value.{spelling, IsNarrow}, Canonical.{canonical_of}, Equal.{eq_ℚ}, OrderView.{equal_decides}}
use Rattle.mdp_num.proofs.Spellings.{sound, complete}
use Rattle.mdp_text.specs.{declared.error.CertKind.TheVariants.{Number}, Words.{whole_of, whole_at, reward_parse}}
use Rattle.mdp_cert.specs.{Runs.{Columns}, Cert.{IsValueNarrow}}
use Rattle.mdp_cert.specs.Claims.{Value, fraction_value, reward_value, reward_text, reward_same}
use Rattle.mdp_cert.specs.Laws.{IsSameWords}
use Rattle.mdp_text.proofs.{Pieces.{Free, free-spelling}, Cuts.{bytes_same, bytes_self}, Feeds.{found_ok, whole-found, whole-again}}
use Rattle.mdp_text.proofs.Joined.{AllFree}

-- the words are read exactly where they are the spelling of an entry in width; none of them has a blank or a line feed; and entries that say
-- the same are the same
pub record IsColumns {A : Type 0} (k : Columns A) (IsInWidth : A → Type 0) : Type 0 where
  pub some : 0 < k.width
  pub count : (x : A) → length (k.words x) ≡ k.width
  pub found : (ws : List (List ℕ)) (x : A) → k.parse ws ≡ Some x → (ws ≡ k.words x) × IsInWidth x
  pub again : (x : A) → IsInWidth x → k.parse (k.words x) ≡ Some x
  pub blanks : (x : A) → IsInWidth x → AllFree 32 (k.words x)
  pub feeds : (x : A) → IsInWidth x → AllFree 10 (k.words x)
  pub same : (x y : A) → k.same x y ≡ true → x ≡ y
  pub itself : (x : A) → k.same x x ≡ true

-- it follows where the words have no byte below 45
pub is-columns : {A : Type 0} (k : Columns A) (IsInWidth : A → Type 0) → 0 < k.width → ((x : A) → length (k.words x) ≡ k.width)
    → ((ws : List (List ℕ)) (x : A) → k.parse ws ≡ Some x → (ws ≡ k.words x) × IsInWidth x) → ((x : A) → IsInWidth x → k.parse (k.words x) ≡ Some x)
    → ((c : ℕ) (x : A) → c < 45 → IsInWidth x → AllFree c (k.words x)) → ((x y : A) → k.same x y ≡ true → x ≡ y) → ((x : A) → k.same x x ≡ true)
    → IsColumns k IsInWidth
is-columns k IsInWidth some count found again free same itself = record {
  some = some;
  count = count;
  found = found;
  again = again;
  blanks = λ x h. free 32 x (omega arith) h;
  feeds = λ x h. free 10 x (omega arith) h;
  same = same;
  itself = itself;
}

-- so they say the same exactly where their words are the same
pub same-words : {A : Type 0} (k : Columns A) (IsInWidth : A → Type 0) → IsColumns k IsInWidth → IsSameWords k IsInWidth
same-words k IsInWidth is x y p q =
    (λ e. ap k.words (is.same x y e), λ e. (let same : x ≡ y = some-is (sym (is.again x p) ∙ ap k.parse e ∙ is.again y q) in subst (λ z. k.same x z ≡ true) same (is.itself x)))
  where
    some-is : Some x ≡ Some y → x ≡ y
    some-is e = cc

-- ---- numbers

pub and_then-some : {A B : Type 0} (f : A → Option B) (o : Option A) (y : B) → option_and_then f o ≡ Some y → (x : A) × (o ≡ Some x) × (f x ≡ Some y)
and_then-some f None y e = absurd cc
and_then-some f (Some x) y e = (x, refl, e)

pub whole-of-found : (w : List ℕ) (m : ℕ) → whole_of w ≡ Some m → (w ≡ decimal m) × (m < 2 ^ 32)
unfolding whole_at
whole-of-found w m e = whole-found 0 w m (rw e refl)

pub whole-of-again : (m : ℕ) → m < 2 ^ 32 → whole_of (decimal m) ≡ Some m
unfolding whole_at
whole-of-again m lt = found_ok (whole_of (decimal m)) Number 0 m (whole-again 0 m lt)

pub same-ℚ : (x y : ℚ) → eq_ℚ x y ≡ true → x ≡ y
same-ℚ x y e = (equal_decides x y).0 e

pub itself-ℚ : (x : ℚ) → eq_ℚ x x ≡ true
itself-ℚ x = (equal_decides x x).1 refl

-- ---- values of one word

pub record IsValue {V : Type 0} (k : Value V) (IsInWidth : V → Type 0) : Type 0 where
  pub found : (w : List ℕ) (x : V) → k.parse w ≡ Some x → (w ≡ k.spell x) × IsInWidth x
  pub again : (x : V) → IsInWidth x → k.parse (k.spell x) ≡ Some x
  pub free : (c : ℕ) (x : V) → c < 45 → IsInWidth x → Free c (k.spell x)
  pub same : (x y : V) → k.same x y ≡ true → x ≡ y
  pub itself : (x : V) → k.same x x ≡ true

pub fraction-is_value : IsValue fraction_value IsNarrow
fraction-is_value = record { found = sound; again = complete; free = free-spelling; same = same-ℚ; itself = itself-ℚ }

-- a fraction, or this word where there is none
module _ (missing : List ℕ) (none : canonical_of missing ≡ None) (text : Option ℚ → List ℕ) (of-none : text None ≡ missing) (of-some : (x : ℚ) → text (Some x) ≡ spelling x) where
  abbrev parse-or : List ℕ → Option (Option ℚ)
  parse-or w = cond (bytes_eq w missing) (Some None) (option_map Some (canonical_of w))

  pub or-found : (w : List ℕ) (x : Option ℚ) → parse-or w ≡ Some x → (w ≡ text x) × IsValueNarrow x
  or-found w x e = by (bytes_eq w missing) refl (canonical_of w) refl e
    where
      by : (b : Bool) → bytes_eq w missing ≡ b → (o : Option ℚ) → canonical_of w ≡ o
          → cond b (let r : Option (Option ℚ) = Some None in r) (option_map Some o) ≡ Some x → (w ≡ text x) × IsValueNarrow x
      by true t o f e = let is : None ≡ x = cc in subst (λ (y : Option ℚ). (w ≡ text y) × IsValueNarrow y) is (bytes_same w missing t ∙ sym of-none, tt)
      by false t None f e = absurd cc
      by false t (Some y) f e =
          let is : Some y ≡ x = cc in
          let s = sound w y f in
          subst (λ (y : Option ℚ). (w ≡ text y) × IsValueNarrow y) is (s.0 ∙ sym (of-some y), s.1)

  -- the word spells no fraction
  not-missing : (x : ℚ) → IsNarrow x → bytes_eq (spelling x) missing ≡ false
  not-missing x h = by (bytes_eq (spelling x) missing) refl
    where
      by : (b : Bool) → bytes_eq (spelling x) missing ≡ b → b ≡ false
      by false t = refl
      by true t =
          let e : None ≡ Some x = sym none ∙ ap canonical_of (sym (bytes_same (spelling x) missing t)) ∙ complete x h in
          absurd cc

  pub or-again : (x : Option ℚ) → IsValueNarrow x → parse-or (text x) ≡ Some x
  or-again None h = rw (of-none, bytes_self missing) refl
  or-again (Some x) h = rw (of-some x, not-missing x h, complete x h) refl

  pub free-or : (c : ℕ) (x : Option ℚ) → Free c missing → c < 45 → IsValueNarrow x → Free c (text x)
  free-or c None free lt h = rw of-none free
  free-or c (Some x) free lt h = rw (of-some x) (free-spelling c x lt h)

inf-none : canonical_of (codes "inf") ≡ None
unfolding canonical_of
inf-none = refl

free-inf : (c : ℕ) → c < 45 → Free c (codes "inf")
free-inf c lt = rw (other 105 (omega arith), other 110 (omega arith), other 102 (omega arith)) refl
  where
    other : (d : ℕ) → 45 ≤ d → eqb d c ≡ false
    other d le = grind (arith, nat_tests)

pub reward-found : (w : List ℕ) (x : Option ℚ) → reward_parse w ≡ Some x → (w ≡ reward_text x) × IsValueNarrow x
reward-found = or-found (codes "inf") inf-none reward_text refl (λ y. refl)

pub reward-again : (x : Option ℚ) → IsValueNarrow x → reward_parse (reward_text x) ≡ Some x
reward-again = or-again (codes "inf") inf-none reward_text refl (λ y. refl)

pub free-reward : (c : ℕ) (x : Option ℚ) → c < 45 → IsValueNarrow x → Free c (reward_text x)
free-reward c x lt h = free-or (codes "inf") inf-none reward_text refl (λ y. refl) c x (free-inf c lt) lt h

reward-same : (x y : Option ℚ) → reward_same x y ≡ true → x ≡ y
reward-same None None e = refl
reward-same None (Some y) e = absurd cc
reward-same (Some x) None e = absurd cc
reward-same (Some x) (Some y) e = ap Some (same-ℚ x y e)

reward-itself : (x : Option ℚ) → reward_same x x ≡ true
reward-itself None = refl
reward-itself (Some x) = itself-ℚ x

pub reward-is_value : IsValue reward_value IsValueNarrow
reward-is_value = record { found = reward-found; again = reward-again; free = free-reward; same = reward-same; itself = reward-itself }

pub number-same : (a b : ℕ) → eqb a b ≡ true → a ≡ b
number-same a b e = grind (arith, nat_tests)

pub number-itself : (a : ℕ) → eqb a a ≡ true
number-itself a = grind (arith, nat_tests)
