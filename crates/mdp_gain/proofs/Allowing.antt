-- The choices that are allowed, while the choices of a policy are gone through.
use Rattle.std.proofs.{Common.{◌≡◌, inl, inr, ℕ, ◌+◌, ◌<◌, Bool, List, [], length, get_or, set, refl, sym, ap, ◌∙◌, subst, arith}, lemmas.Bool.{cases_eq}}
use Rattle.std.proofs.{lemmas.List.{length-set, get_or-set_other}, lemmas.Grind.{get_or-set_at}}
use Rattle.mdp_spec.specs.Mdp.{Mdp, states_of, choices_at}
use Rattle.mdp_graph.specs.Sets.{marked}
use Rattle.mdp_parts.specs.Allowed.{allowed_at, AreChoices}
use Rattle.mdp_unichain.specs.{Component.{Component}, Classes.{takes}}
use Rattle.mdp_gain.specs.Classes.{TakesAt, TakesAll}

-- ---- a choice gets a value

module _ (m : Mdp) (lists : List (List Bool)) (a : AreChoices m lists) (s c : ℕ) (v : Bool) (hs : s < states_of m) (hc : c < length (choices_at m s)) where
  in_lists : s < length lists
  in_lists = omega (arith, hs, a.count)

  in_list : c < length (get_or lists s [])
  in_list = (let w = a.width s hs in omega (arith, hc, w))

  value_here : allowed_at (set lists s (set (get_or lists s []) c v)) s c ≡ v
  value_here =
      ap (λ (xs : List Bool). marked xs c) (get_or-set_at lists s s (set (get_or lists s []) c v) [] refl in_lists)
      ∙ get_or-set_at (get_or lists s []) c c v _ refl in_list

  value_there : (d : ℕ) → (d ≡ c → ⊥) → allowed_at (set lists s (set (get_or lists s []) c v)) s d ≡ allowed_at lists s d
  value_there d other =
      ap (λ (xs : List Bool). marked xs d) (get_or-set_at lists s s (set (get_or lists s []) c v) [] refl in_lists)
      ∙ get_or-set_other (get_or lists s []) c d v _ other

  value_elsewhere : (t d : ℕ) → (t ≡ s → ⊥) → allowed_at (set lists s (set (get_or lists s []) c v)) t d ≡ allowed_at lists t d
  value_elsewhere t d other = ap (λ (xs : List Bool). marked xs d) (get_or-set_other lists s t (set (get_or lists s []) c v) [] other)

  sizes_stay : AreChoices m (set lists s (set (get_or lists s []) c v))
  sizes_stay = record {
    count = length-set lists s (set (get_or lists s []) c v) ∙ a.count;
    width = λ t h. elim (cases_eq t s) [
      | inl same ↦
          ap (λ (xs : List Bool). length xs) (get_or-set_at lists s t (set (get_or lists s []) c v) [] same in_lists) ∙ length-set (get_or lists s []) c v
          ∙ ap (λ x. length (get_or lists x [])) (sym same) ∙ a.width t h
      | inr other ↦ ap (λ (xs : List Bool). length xs) (get_or-set_other lists s t (set (get_or lists s []) c v) [] other) ∙ a.width t h
    ];
  }

-- ---- the choices of a state

-- the first c choices of state s were gone through
pub record IsAllowing (m : Mdp) (p : Component) (policy : List ℕ) (s c : ℕ) (old now : List (List Bool)) : Type 0 where
  pub sizes : AreChoices m now
  pub others : (t d : ℕ) → (t ≡ s → ⊥) → allowed_at now t d ≡ allowed_at old t d
  pub at : (d : ℕ) → d < c → allowed_at now s d ≡ takes p policy s d

module _ (m : Mdp) (p : Component) (policy : List ℕ) (s : ℕ) (old : List (List Bool)) where
  pub allowing_begins : AreChoices m old → IsAllowing m p policy s 0 old old
  allowing_begins a = record { sizes = a; others = λ t d other. refl; at = λ d h. absurd (omega (arith, h)) }

  pub allowing_goes_on : s < states_of m → (c : ℕ) → c < length (choices_at m s) → (now : List (List Bool)) → IsAllowing m p policy s c old now
      → (v : Bool) → v ≡ takes p policy s c → (new : List (List Bool)) → new ≡ set now s (set (get_or now s []) c v) → IsAllowing m p policy s (c + 1) old new
  allowing_goes_on hs c hc now a v is new e = rw e (record {
    sizes = sizes_stay m now a.sizes s c v hs hc;
    others = λ t d other. value_elsewhere m now a.sizes s c v hs hc t d other ∙ a.others t d other;
    at = λ d h. elim (cases_eq d c) [
      | inl same ↦ ap (allowed_at (set now s (set (get_or now s []) c v)) s) same ∙ value_here m now a.sizes s c v hs hc ∙ is ∙ sym (ap (takes p policy s) same)
      | inr other ↦ value_there m now a.sizes s c v hs hc d other ∙ a.at d (omega (arith, h, other))
    ];
  })

  pub allowing_ends : (c : ℕ) (new : List (List Bool)) → IsAllowing m p policy s c old new → c ≡ length (choices_at m s) → TakesAt m p policy s old new
  allowing_ends c new a e = record { sizes = a.sizes; others = a.others; at = λ d h. a.at d (omega (arith, h, e)) }

-- ---- all states

-- the first n states were gone through
pub record AreAllowed (m : Mdp) (p : Component) (policy : List ℕ) (n : ℕ) (now : List (List Bool)) : Type 0 where
  pub sizes : AreChoices m now
  pub at : (s d : ℕ) → s < n → d < length (choices_at m s) → allowed_at now s d ≡ takes p policy s d

module _ (m : Mdp) (p : Component) (policy : List ℕ) where
  pub none_allowed : (now : List (List Bool)) → AreChoices m now → AreAllowed m p policy 0 now
  none_allowed now a = record { sizes = a; at = λ s d h l. absurd (omega (arith, h)) }

  pub one_more_allowed : (n : ℕ) (now new : List (List Bool)) → AreAllowed m p policy n now → TakesAt m p policy n now new → AreAllowed m p policy (n + 1) new
  one_more_allowed n now new a t = record {
    sizes = t.sizes;
    at = λ s d h l. elim (cases_eq s n) [
      | inl same ↦
          ap (λ x. allowed_at new x d) same ∙ t.at d (subst (λ x. d < length (choices_at m x)) same l) ∙ sym (ap (λ x. takes p policy x d) same)
      | inr other ↦ t.others s d other ∙ a.at s d (omega (arith, h, other)) l
    ];
  }

  pub all_allowed : (n : ℕ) (now : List (List Bool)) → AreAllowed m p policy n now → n ≡ states_of m → TakesAll m p policy now
  all_allowed n now a e s c h l = a.at s c (omega (arith, h, e)) l
