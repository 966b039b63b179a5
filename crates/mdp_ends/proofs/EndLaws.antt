-- Laws of end components.
use Rattle.std.proofs.{Common.{◌≡◌, inl, inr, ℕ, ◌<◌, Bool, true, ◌||◌, ◌&&◌, List}, lemmas.Bool.{or_cases, or_left, or_right, and_parts, and_from}}
use Rattle.mdp_spec.specs.{Mdp.{Entry, Mdp, states_of, row_at}, Row.{IsMdp}}
use Rattle.mdp_graph.specs.Sets.{stays_in}
use Rattle.mdp_ends.specs.{Walks.{Reaches}, Ends.{IsEnd, IsWithin, IsMaximal}}
use Rattle.mdp_ends.proofs.Walking.{stays-at, stays-by, and_then, moved}

-- the union of two sets with their choices
abbrev pub either : (ℕ → Bool) → (ℕ → Bool) → ℕ → Bool
either set other s = set s || other s

abbrev pub either_choice : (ℕ → Bool) → (ℕ → ℕ → Bool) → (ℕ → Bool) → (ℕ → ℕ → Bool) → ℕ → ℕ → Bool
either_choice set chosen other more s c = (set s && chosen s c) || (other s && more s c)

pub stays-more : (set big : ℕ → Bool) (row : List Entry) → ((t : ℕ) → set t ≡ true → big t ≡ true) → stays_in set row ≡ true → stays_in big row ≡ true
stays-more set big row more e = stays-by big row (λ t l. more t (stays-at set row t e l))

module _ (m : Mdp) (ok : IsMdp m) (set : ℕ → Bool) (chosen : ℕ → ℕ → Bool) (other : ℕ → Bool) (more : ℕ → ℕ → Bool) where
  pub left_within : IsWithin m set chosen (either set other) (either_choice set chosen other more)
  left_within = record {
    states = λ s h is. or_left (set s) (other s) is;
    choices = λ s c h is l e. or_left (set s && chosen s c) (other s && more s c) (and_from (set s) (chosen s c) is e);
  }

  pub right_within : IsWithin m other more (either set other) (either_choice set chosen other more)
  right_within = record {
    states = λ s h is. or_right (set s) (other s) is;
    choices = λ s c h is l e. or_right (set s && chosen s c) (other s && more s c) (and_from (other s) (more s c) is e);
  }

  module _ (a : IsEnd m set chosen) (b : IsEnd m other more) where
    by_left : (s t : ℕ) → s < states_of m → set s ≡ true → Reaches m chosen s t → Reaches m (either_choice set chosen other more) s t
    by_left s t h is w = moved m ok set chosen (either_choice set chosen other more) a.closed (IsWithin.choices left_within) s t h is w

    by_right : (s t : ℕ) → s < states_of m → other s ≡ true → Reaches m more s t → Reaches m (either_choice set chosen other more) s t
    by_right s t h is w = moved m ok other more (either_choice set chosen other more) b.closed (IsWithin.choices right_within) s t h is w

    -- to a shared state, and from it
    module _ (x : ℕ) (hx : x < states_of m) (inset : set x ≡ true) (inother : other x ≡ true) where
      to_shared : (s : ℕ) → s < states_of m → either set other s ≡ true → Reaches m (either_choice set chosen other more) s x
      to_shared s h is = elim (or_cases (set s) (other s) is) [
        | inl l ↦ by_left s x h l (a.joined s x h hx l inset)
        | inr r ↦ by_right s x h r (b.joined s x h hx r inother)
      ]

      from_shared : (s : ℕ) → s < states_of m → either set other s ≡ true → Reaches m (either_choice set chosen other more) x s
      from_shared s h is = elim (or_cases (set s) (other s) is) [
        | inl l ↦ by_left x s hx inset (a.joined x s hx h inset l)
        | inr r ↦ by_right x s hx inother (b.joined x s hx h inother r)
      ]

      -- the union of two end components that share a state is an end component
      pub union_is_end : IsEnd m (either set other) (either_choice set chosen other more)
      union_is_end = record {
        some = (x, hx, or_left (set x) (other x) inset);
        choice = λ s h is. elim (or_cases (set s) (other s) is) [
          | inl l ↦ (let w = a.choice s h l in (w.0, w.1, or_left (set s && chosen s w.0) (other s && more s w.0) (and_from (set s) (chosen s w.0) l w.2)))
          | inr r ↦ (let w = b.choice s h r in (w.0, w.1, or_right (set s && chosen s w.0) (other s && more s w.0) (and_from (other s) (more s w.0) r w.2)))
        ];
        closed = λ s c h is k e. elim (or_cases (set s && chosen s c) (other s && more s c) e) [
          | inl l ↦ (let p = and_parts (set s) (chosen s c) l in stays-more set (either set other) (row_at m s c) (λ t i. or_left (set t) (other t) i) (a.closed s c h p.0 k p.1))
          | inr r ↦ (let p = and_parts (other s) (more s c) r in stays-more other (either set other) (row_at m s c) (λ t i. or_right (set t) (other t) i) (b.closed s c h p.0 k p.1))
        ];
        joined = λ s t hs ht is it. and_then m ok (either_choice set chosen other more) s x t hs (to_shared s hs is) (from_shared t ht it);
      }

-- ---- two maximal end components that share a state are the same

pub within_trans : (m : Mdp) (a b c : ℕ → Bool) (p q r : ℕ → ℕ → Bool) → IsWithin m a p b q → IsWithin m b q c r → IsWithin m a p c r
within_trans m a b c p q r u v = record {
  states = λ s h is. v.states s h (u.states s h is);
  choices = λ s k h is l e. v.choices s k h (u.states s h is) l (u.choices s k h is l e);
}

pub maximal_share_none : (m : Mdp) → IsMdp m → (set : ℕ → Bool) (chosen : ℕ → ℕ → Bool) (other : ℕ → Bool) (more : ℕ → ℕ → Bool) → IsMaximal m set chosen → IsMaximal m other more
    → (x : ℕ) → x < states_of m → set x ≡ true → other x ≡ true → IsWithin m set chosen other more
maximal_share_none m ok set chosen other more a b x hx l r =
    within_trans m set (either set other) other chosen (either_choice set chosen other more) more (left_within m ok set chosen other more)
    (b.greatest (either set other) (either_choice set chosen other more) (union_is_end m ok set chosen other more a.is_end b.is_end x hx l r) (right_within m ok set chosen other more))
