-- Sets of states that grow along allowed choices.
use Rattle.std.proofs.Common.{◌≡◌, inl, inr, ℕ, ◌+◌, ◌<◌, Bool, true, List, length, get_or, refl, sym, ap, ◌∙◌, subst, arith}
use Rattle.std.proofs.lemmas.Bool.{cases_eq}
use Rattle.mdp_math.specs.Rational.{ℚ}
use Rattle.mdp_spec.specs.{Mdp.{Mdp, states_of, choices_at, row_at}, Row.{IsMdp, entries}}
use Rattle.mdp_graph.specs.Sets.{stays_in}
use Rattle.mdp_graph.proofs.{EdgeFacts.{all-as-stays}, RowSets.{list_all-by, stays-more}}
use Rattle.mdp_parts.specs.{Allowed.{allowed_at}, Region.{is_in, IsRegion, IsGrown, IsClosedAt}}

-- ---- sets grow

pub same_region : (places list : List ℕ) → IsGrown places list places list
same_region places list = record { longer = omega arith; before = λ k h. refl; kept = λ s e. e }

pub region_as : (n k : ℕ) (places list : List ℕ) → n ≡ k → IsRegion n places list → IsRegion k places list
region_as n k places list e r = subst (λ (j : ℕ). IsRegion j places list) e r

pub grown_both : (p a q b r c : List ℕ) → IsGrown p a q b → IsGrown q b r c → IsGrown p a r c
grown_both p a q b r c f g = record {
  longer = (let l = f.longer in let k = g.longer in omega (arith, l, k));
  before = λ k h. (let l = f.longer in g.before k (omega (arith, h, l)) ∙ f.before k h);
  kept = λ s e. g.kept s (f.kept s e);
}

-- ---- along allowed choices

-- the targets of a row are in a set
pub row_stays : (m : Mdp) (set : ℕ → Bool) (s c : ℕ) (ts : List ℕ) (ps : List ℚ) → length ts ≡ length ps → entries ts ps ≡ row_at m s c
    → ((k : ℕ) → k < length ts → set (get_or ts k 0) ≡ true) → stays_in set (row_at m s c) ≡ true
row_stays m set s c ts ps same row each = sym (ap (stays_in set) row) ∙ all-as-stays set ts ps same ∙ list_all-by set ts 0 each

-- the first c choices of state s lead into the set alone
abbrev pub IsClosedBefore : Mdp → List (List Bool) → (ℕ → Bool) → ℕ → ℕ → Type 0
IsClosedBefore m allowed set s c = (d : ℕ) → d < c → d < length (choices_at m s) → allowed_at allowed s d ≡ true → stays_in set (row_at m s d) ≡ true

pub closed_more : (m : Mdp) → IsMdp m → (allowed : List (List Bool)) (p q : ℕ → Bool) (s c : ℕ) → s < states_of m → ((t : ℕ) → p t ≡ true → q t ≡ true)
    → IsClosedBefore m allowed p s c → IsClosedBefore m allowed q s c
closed_more m ok allowed p q s c h more a d l k e =
    let row = ok.row s d h k in
    stays-more p q (row_at m s d) (states_of m) row.in_range (λ t ht is. more t is) (a d l k e)

pub closed_next : (m : Mdp) (allowed : List (List Bool)) (set : ℕ → Bool) (s c : ℕ) → IsClosedBefore m allowed set s c
    → (allowed_at allowed s c ≡ true → stays_in set (row_at m s c) ≡ true) → IsClosedBefore m allowed set s (c + 1)
closed_next m allowed set s c a here d l k e = elim (cases_eq d c) [
  | inl same ↦ ap (λ (x : ℕ). stays_in set (row_at m s x)) same ∙ here (sym (ap (allowed_at allowed s) same) ∙ e)
  | inr other ↦ a d (omega (arith, l, other)) k e
]

pub closed_all : (m : Mdp) (allowed : List (List Bool)) (set : ℕ → Bool) (s c : ℕ) → IsClosedBefore m allowed set s c → c ≡ length (choices_at m s)
    → IsClosedAt m allowed set s
closed_all m allowed set s c a all d l e = a d (omega (arith, l, all)) l e

-- the first states of a list lead into the set alone
pub record IsGathering (m : Mdp) (allowed : List (List Bool)) (places list : List ℕ) (next : ℕ) : Type 0 where
  pub region : IsRegion (states_of m) places list
  pub closed : (k : ℕ) → k < next → k < length list → IsClosedAt m allowed (is_in places list) (get_or list k 0)

pub gathering_next : (m : Mdp) → IsMdp m → (allowed : List (List Bool)) (places list new_places new_list : List ℕ) (next t : ℕ)
    → next < length list → t ≡ get_or list next 0
    → IsGathering m allowed places list next → IsRegion (states_of m) new_places new_list → IsGrown places list new_places new_list
    → IsClosedAt m allowed (is_in new_places new_list) t → IsGathering m allowed new_places new_list (next + 1)
gathering_next m ok allowed places list new_places new_list next t h is a r g here = record {
  region = r;
  closed = λ k l in_new. elim (cases_eq k next) [
    | inl same ↦ subst (λ (x : ℕ). IsClosedAt m allowed (is_in new_places new_list) x)
        (sym (ap (λ (j : ℕ). get_or new_list j 0) same ∙ g.before next h ∙ sym is)) here
    | inr other ↦
        (let before : k < length list = omega (arith, l, other, h) in
        let b = IsRegion.below a.region k before in
        subst (λ (x : ℕ). IsClosedAt m allowed (is_in new_places new_list) x) (sym (g.before k before))
        (λ d e al. closed_more m ok allowed (is_in places list) (is_in new_places new_list) (get_or list k 0) (length (choices_at m (get_or list k 0))) b g.kept
        (λ d l' k' al'. a.closed k (omega (arith, l, other)) before d k' al') d e e al))
  ];
}
