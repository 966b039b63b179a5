-- A round of the search for the maximal end components while it goes on.
use Rattle.std.proofs.Common.{◌≡◌, ◌⊎◌, inl, inr, ℕ, ◌+◌, ◌<◌, ◌≤◌, Bool, true, false, ◌&&◌, ◌==◌, List, [], length, get_or, set, refl, sym, ap, ◌∙◌, subst, arith}
use Rattle.std.proofs.{lemmas.Bool.{false≢true, cases_Bool, cases_eq, and_from}, lemmas.List.{length-set, get_or-set_other}, lemmas.Grind.{get_or-set_at}}
use Rattle.std.specs.List.{list_all}
use Rattle.mdp_math.specs.Rational.{ℚ}
use Rattle.mdp_math.proofs.Booleans.{and-false}
use Rattle.mdp_spec.specs.{Mdp.{Mdp, states_of, choices_at, row_at}, Row.{IsMdp, entries}}
use Rattle.mdp_graph.specs.Sets.{stays_in}
use Rattle.mdp_ends.specs.{Rounds.{keeps_part, still_allowed, KeepsEnds, IsSettled}, Walks.{AreComponents}}
use Rattle.mdp_ends.proofs.RoundLaws.{round_kept}
use Rattle.mdp_parts.specs.{Allowed.{allowed_at, AreChoices}, Round.{Leaves, IsForbidden, IsRound}}
use Rattle.mdp_graph.proofs.EdgeFacts.{all-as-stays}

pub keeps_by : (m : Mdp) (parts : List ℕ) (s c part : ℕ) (ts : List ℕ) (ps : List ℚ) → length ts ≡ length ps → entries ts ps ≡ row_at m s c → part ≡ get_or parts s 0
    → list_all (λ t. get_or parts t 0 == part) ts ≡ keeps_part m parts s c
keeps_by m parts s c part ts ps same row is =
    ap (λ x. list_all (λ t. get_or parts t 0 == x) ts) is ∙ sym (all-as-stays (λ t. get_or parts t 0 == get_or parts s 0) ts ps same) ∙ ap (stays_in (λ t. get_or parts t 0 == get_or parts s 0)) row

-- ---- a choice is forbidden

module _ (m : Mdp) (lists : List (List Bool)) (a : AreChoices m lists) (s c : ℕ) (hs : s < states_of m) (hc : c < length (choices_at m s)) where
  now : List (List Bool)
  now = set lists s (set (get_or lists s []) c false)

  in_lists : s < length lists
  in_lists = omega (arith, hs, a.count)

  in_list : c < length (get_or lists s [])
  in_list = (let w = a.width s hs in omega (arith, hc, w))

  pub forbidden_here : allowed_at (set lists s (set (get_or lists s []) c false)) s c ≡ false
  forbidden_here = ap (λ (xs : List Bool). get_or xs c false) (get_or-set_at lists s s (set (get_or lists s []) c false) [] refl in_lists)
      ∙ get_or-set_at (get_or lists s []) c c false false refl in_list

  pub forbidden_there : (d : ℕ) → (d ≡ c → ⊥) → allowed_at (set lists s (set (get_or lists s []) c false)) s d ≡ allowed_at lists s d
  forbidden_there d other = ap (λ (xs : List Bool). get_or xs d false) (get_or-set_at lists s s (set (get_or lists s []) c false) [] refl in_lists)
      ∙ get_or-set_other (get_or lists s []) c d false false other

  pub forbidden_else : (t d : ℕ) → (t ≡ s → ⊥) → allowed_at (set lists s (set (get_or lists s []) c false)) t d ≡ allowed_at lists t d
  forbidden_else t d other = ap (λ (xs : List Bool). get_or xs d false) (get_or-set_other lists s t (set (get_or lists s []) c false) [] other)

  pub forbidden_sizes : AreChoices m (set lists s (set (get_or lists s []) c false))
  forbidden_sizes = record {
    count = length-set lists s (set (get_or lists s []) c false) ∙ a.count;
    width = λ t h. elim (cases_eq t s) [
      | inl same ↦
          ap (λ (xs : List Bool). length xs) (get_or-set_at lists s t (set (get_or lists s []) c false) [] same in_lists) ∙ length-set (get_or lists s []) c false
          ∙ ap (λ x. length (get_or lists x [])) (sym same) ∙ a.width t h
      | inr other ↦ ap (λ (xs : List Bool). length xs) (get_or-set_other lists s t (set (get_or lists s []) c false) [] other) ∙ a.width t h
    ];
  }

-- ---- the choices of a state

-- the first c choices of state s were looked at
pub record IsForbidding (m : Mdp) (parts : List ℕ) (s c : ℕ) (old now : List (List Bool)) (any : Bool) : Type 0 where
  pub sizes : AreChoices m now
  pub others : (t d : ℕ) → (t ≡ s → ⊥) → allowed_at now t d ≡ allowed_at old t d
  pub later : (d : ℕ) → c ≤ d → allowed_at now s d ≡ allowed_at old s d
  pub at : (d : ℕ) → d < c → allowed_at now s d ≡ still_allowed m (allowed_at old) parts s d
  pub some : any ≡ true → Leaves m parts old s
  pub none : any ≡ false → (d : ℕ) → d < c → allowed_at old s d ≡ true → keeps_part m parts s d ≡ true

module _ (m : Mdp) (parts : List ℕ) (s : ℕ) (old : List (List Bool)) where
  pub forbidding_begins : AreChoices m old → IsForbidding m parts s 0 old old false
  forbidding_begins a = record {
    sizes = a;
    others = λ t d other. refl;
    later = λ d h. refl;
    at = λ d h. absurd (omega (arith, h));
    some = λ e. absurd (false≢true e);
    none = λ e d h. absurd (omega (arith, h));
  }

  module _ (hs : s < states_of m) (c : ℕ) (hc : c < length (choices_at m s)) (now : List (List Bool)) (any : Bool) (a : IsForbidding m parts s c old now any) where
    pub forbids : allowed_at now s c ≡ true → keeps_part m parts s c ≡ false → (new : List (List Bool)) → new ≡ set now s (set (get_or now s []) c false) → IsForbidding m parts s (c + 1) old new true
    forbids is leaves new e = rw e (record {
      sizes = forbidden_sizes m now a.sizes s c hs hc;
      others = λ t d other. forbidden_else m now a.sizes s c hs hc t d other ∙ a.others t d other;
      later = λ d h. forbidden_there m now a.sizes s c hs hc d (λ same. omega (arith, same, h)) ∙ a.later d (omega (arith, h));
      at = λ d h. elim (cases_eq d c) [
        | inl same ↦
            ap (λ x. allowed_at (set now s (set (get_or now s []) c false)) s x) same ∙ forbidden_here m now a.sizes s c hs hc
            ∙ sym (ap (λ x. still_allowed m (allowed_at old) parts s x) same ∙ ap (λ b. allowed_at old s c && b) leaves ∙ and-false (allowed_at old s c))
        | inr other ↦ forbidden_there m now a.sizes s c hs hc d other ∙ a.at d (omega (arith, h, other))
      ];
      some = λ q. (c, hc, sym (a.later c (omega arith)) ∙ is, leaves);
      none = λ q. absurd (false≢true (sym q));
    })

    -- a choice that isn't allowed, or doesn't leave
    pub leaves_be : (allowed_at now s c ≡ false) ⊎ (keeps_part m parts s c ≡ true) → IsForbidding m parts s (c + 1) old now any
    leaves_be why = record {
      sizes = a.sizes;
      others = a.others;
      later = λ d h. a.later d (omega (arith, h));
      at = λ d h. elim (cases_eq d c) [
        | inl same ↦ ap (allowed_at now s) same ∙ a.later c (omega arith) ∙ still ∙ sym (ap (still_allowed m (allowed_at old) parts s) same)
        | inr other ↦ a.at d (omega (arith, h, other))
      ];
      some = a.some;
      none = λ q d h is. elim (cases_eq d c) [
        | inl same ↦ ap (keeps_part m parts s) same ∙ keeps_it (sym (ap (allowed_at old s) same) ∙ is)
        | inr other ↦ a.none q d (omega (arith, h, other)) is
      ];
    } where
      keeps_it : allowed_at old s c ≡ true → keeps_part m parts s c ≡ true
      keeps_it is = elim why [
        | inl out ↦ absurd (false≢true (sym out ∙ a.later c (omega arith) ∙ is))
        | inr kept ↦ kept
      ]

      still : allowed_at old s c ≡ still_allowed m (allowed_at old) parts s c
      still = elim (cases_Bool (allowed_at old s c)) [
        | inl is ↦ is ∙ sym (and_from (allowed_at old s c) (keeps_part m parts s c) is (keeps_it is))
        | inr out ↦ out ∙ sym (ap (λ b. b && keeps_part m parts s c) out)
      ]

  pub forbidden : (c : ℕ) (new : List (List Bool)) (any : Bool) → IsForbidding m parts s c old new any → c ≡ length (choices_at m s) → IsForbidden m parts s old new any
  forbidden c new any a e = record {
    sizes = a.sizes;
    others = a.others;
    at = λ d h. a.at d (omega (arith, h, e));
    some = a.some;
    none = λ q d h. a.none q d (omega (arith, h, e));
  }

-- ---- all states

-- the first n states were looked at
pub record IsPassing (m : Mdp) (parts : List ℕ) (n : ℕ) (old now : List (List Bool)) (any : Bool) : Type 0 where
  pub sizes : AreChoices m now
  pub later : (s d : ℕ) → n ≤ s → allowed_at now s d ≡ allowed_at old s d
  pub at : (s d : ℕ) → s < n → d < length (choices_at m s) → allowed_at now s d ≡ still_allowed m (allowed_at old) parts s d
  pub some : any ≡ true → (s : ℕ) × (s < n) × Leaves m parts old s
  pub none : any ≡ false → (s d : ℕ) → s < n → d < length (choices_at m s) → allowed_at old s d ≡ true → keeps_part m parts s d ≡ true

module _ (m : Mdp) (parts : List ℕ) (old : List (List Bool)) where
  pub passing_begins : AreChoices m old → IsPassing m parts 0 old old false
  passing_begins a = record {
    sizes = a;
    later = λ s d h. refl;
    at = λ s d h. absurd (omega (arith, h));
    some = λ e. absurd (false≢true e);
    none = λ e s d h. absurd (omega (arith, h));
  }

  module _ (n : ℕ) (now new : List (List Bool)) (any more : Bool) (a : IsPassing m parts n old now any) (f : IsForbidden m parts n now new more) where
    pub passing_on : (both : Bool) → (both ≡ true → (any ≡ true) ⊎ (more ≡ true)) → (both ≡ false → (any ≡ false) × (more ≡ false)) → IsPassing m parts (n + 1) old new both
    passing_on both one none = record {
      sizes = f.sizes;
      later = λ s d h. f.others s d (λ same. omega (arith, same, h)) ∙ a.later s d (omega (arith, h));
      at = λ s d h l. elim (cases_eq s n) [
        | inl same ↦
            ap (λ x. allowed_at new x d) same ∙ f.at d (subst (λ x. d < length (choices_at m x)) same l) ∙ ap (λ b. b && keeps_part m parts n d) (a.later n d (omega arith))
            ∙ sym (ap (λ x. still_allowed m (allowed_at old) parts x d) same)
        | inr other ↦ f.others s d other ∙ a.at s d (omega (arith, h, other)) l
      ];
      some = λ q. elim (one q) as (λ _. (s : ℕ) × (s < n + 1) × Leaves m parts old s) [
        | inl before ↦ (let w = a.some before in (w.0, omega (arith, w.1), w.2))
        | inr here ↦ (let w = f.some here in (n, omega arith, (w.0, w.1, sym (a.later n w.0 (omega arith)) ∙ w.2, w.3)))
      ];
      none = λ q s d h l is. (let z = none q in elim (cases_eq s n) [
        | inl same ↦
            ap (λ x. keeps_part m parts x d) same
            ∙ f.none z.1 d (subst (λ x. d < length (choices_at m x)) same l) (a.later n d (omega arith) ∙ sym (ap (λ x. allowed_at old x d) same) ∙ is)
        | inr other ↦ a.none z.0 s d (omega (arith, h, other)) l is
      ]);
    }

    pub passing_some : more ≡ true → IsPassing m parts (n + 1) old new true
    passing_some e = passing_on true (λ _. inr e) (λ q. absurd (false≢true (sym q)))

    pub passing_none : more ≡ false → IsPassing m parts (n + 1) old new any
    passing_none e = passing_on any (λ q. inl q) (λ q. (q, e))

  pub passed : (n : ℕ) (new : List (List Bool)) (any : Bool) → IsPassing m parts n old new any → n ≡ states_of m → IsRound m parts old new any
  passed n new any a e = record {
    sizes = a.sizes;
    at = λ s d h. a.at s d (omega (arith, h, e));
    some = λ q. (let w = a.some q in (w.0, omega (arith, w.1, e), w.2));
    none = λ q s d h. a.none q s d (omega (arith, h, e));
  }

-- ---- what a round keeps

module _ (m : Mdp) (parts : List ℕ) (old new : List (List Bool)) (any : Bool) (r : IsRound m parts old new any) where
  pub round_keeps : IsMdp m → AreComponents m (allowed_at old) parts → KeepsEnds m (allowed_at old) → KeepsEnds m (allowed_at new)
  round_keeps ok comp keeps set chosen a s c h is l e = r.at s c h l ∙ round_kept m ok (allowed_at old) parts comp keeps set chosen a s c h is l e

  pub round_settled : any ≡ false → IsSettled m (allowed_at old) parts
  round_settled q = r.none q

  pub round_same : any ≡ false → (s c : ℕ) → s < states_of m → c < length (choices_at m s) → allowed_at new s c ≡ allowed_at old s c
  round_same q s c h l = elim (cases_Bool (allowed_at old s c)) [
    | inl is ↦ r.at s c h l ∙ and_from (allowed_at old s c) (keeps_part m parts s c) is (r.none q s c h l is) ∙ sym is
    | inr out ↦ r.at s c h l ∙ ap (λ b. b && keeps_part m parts s c) out ∙ sym out
  ]
