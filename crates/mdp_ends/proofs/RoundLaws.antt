-- A search that forbids each choice that leaves its component ends with the maximal end components.
use Rattle.std.proofs.Common.{◌≡◌, inl, inr, ℕ, ◌<◌, Bool, true, ◌==◌, List, length, get_or, Option, Some, None, refl, sym, ap, ◌∙◌, arith}
use Rattle.std.proofs.lemmas.Bool.{false≢true, eqb-true, eq-eqb, and_from}
use Rattle.mdp_spec.specs.{Mdp.{Mdp, states_of, choices_at, row_at}, Row.{IsMdp}}
use Rattle.mdp_graph.specs.Sets.{stays_in}
use Rattle.mdp_ends.specs.{Walks.{AreComponents}, Ends.{IsEnd, IsWithin, IsMaximal, part_of, has_number, in_part, stays_with, is_inside, count_of, AreEnds}}
use Rattle.mdp_ends.specs.Rounds.{KeepsEnds, keeps_part, still_allowed, IsSettled, AreLeft}
use Rattle.mdp_ends.proofs.{Walking.{stays-at, stays-by, target-below, walk_to, moved}, Numbering.{some-same, case-number, numbered-below, numbered-has}}

-- ---- parts

pub has-number : (i : ℕ) (o : Option ℕ) → o ≡ Some i → has_number i o ≡ true
has-number i o e = ap (has_number i) e ∙ eq-eqb i i refl

pub number-has : (i : ℕ) (o : Option ℕ) → has_number i o ≡ true → o ≡ Some i
number-has i None e = absurd (false≢true e)
number-has i (Some j) e = ap Some (eqb-true j i e)

pub inside-is : (m : Mdp) (ends : List (Option ℕ)) (s c i : ℕ) → part_of ends s ≡ Some i → is_inside m ends s c ≡ stays_in (in_part ends i) (row_at m s c)
inside-is m ends s c i e = ap (λ o. stays_with ends o (row_at m s c)) e

pub inside-stays : (m : Mdp) (ends : List (Option ℕ)) (s c i : ℕ) → part_of ends s ≡ Some i → is_inside m ends s c ≡ true → stays_in (in_part ends i) (row_at m s c) ≡ true
inside-stays m ends s c i e is = sym (inside-is m ends s c i e) ∙ is

pub inside-by : (m : Mdp) (ends : List (Option ℕ)) (s c i : ℕ) → part_of ends s ≡ Some i → stays_in (in_part ends i) (row_at m s c) ≡ true → is_inside m ends s c ≡ true
inside-by m ends s c i e st = inside-is m ends s c i e ∙ st

-- ---- what each round keeps

pub all_kept : (m : Mdp) → KeepsEnds m (λ s c. true)
all_kept m = λ set chosen a s c h is l e. refl

module _ (m : Mdp) (ok : IsMdp m) (allowed : ℕ → ℕ → Bool) (parts : List ℕ) (comp : AreComponents m allowed parts) (keeps : KeepsEnds m allowed) where
  -- the states of an end component are in one component of what is allowed
  pub within_one : (set : ℕ → Bool) (chosen : ℕ → ℕ → Bool) → IsEnd m set chosen → (s t : ℕ)
      → s < states_of m → t < states_of m → set s ≡ true → set t ≡ true → get_or parts s 0 ≡ get_or parts t 0
  within_one set chosen a s t hs ht is it =
      let w = comp.same s t hs ht in
      w.1 (moved m ok set chosen allowed a.closed (keeps set chosen a) s t hs is (a.joined s t hs ht is it), moved m ok set chosen allowed a.closed (keeps set chosen a) t s ht it (a.joined t s ht hs it is))

  pub round_kept : KeepsEnds m (still_allowed m allowed parts)
  round_kept set chosen a s c h is l e =
      and_from (allowed s c) (keeps_part m parts s c) (keeps set chosen a s c h is l e)
      (stays-by (λ t. get_or parts t 0 == get_or parts s 0) (row_at m s c)
      (λ t to. (let ht = target-below m ok s c t h l to in eq-eqb (get_or parts t 0) (get_or parts s 0) (within_one set chosen a t s ht h (stays-at set (row_at m s c) t (a.closed s c h is l e) to) is))))

-- ---- a part that is an end component is maximal, where each end component lies in a part

module _ (m : Mdp) (ok : IsMdp m) (ends : List (Option ℕ)) (each : (set : ℕ → Bool) (chosen : ℕ → ℕ → Bool) → IsEnd m set chosen
    → (i : ℕ) × (i < count_of ends) × ((s : ℕ) → s < states_of m → set s ≡ true → in_part ends i s ≡ true)) where
  pub maximal_by_each : (i : ℕ) → IsEnd m (in_part ends i) (is_inside m ends) → IsMaximal m (in_part ends i) (is_inside m ends)
  maximal_by_each i a = record { is_end = a; greatest = greatest } where
    contained : (big : ℕ → Bool) (more : ℕ → ℕ → Bool) → IsEnd m big more
        → IsWithin m (in_part ends i) (is_inside m ends) big more → (t : ℕ) → t < states_of m → big t ≡ true → in_part ends i t ≡ true
    contained big more b w t h is =
        let v = each big more b in
        let x = a.some in
        let j = v.2 x.0 x.1 (w.states x.0 x.1 x.2) in
        let same : i ≡ v.0 = some-same i v.0 (sym (number-has i (part_of ends x.0) x.2) ∙ number-has v.0 (part_of ends x.0) j) in
        ap (λ k. in_part ends k t) same ∙ v.2 t h is

    greatest : (big : ℕ → Bool) (more : ℕ → ℕ → Bool) → IsEnd m big more → IsWithin m (in_part ends i) (is_inside m ends) big more → IsWithin m big more (in_part ends i) (is_inside m ends)
    greatest big more b w = record {
      states = contained big more b w;
      choices = λ s c h is l e.
          (let p = number-has i (part_of ends s) (contained big more b w s h is) in
          inside-is m ends s c i p ∙ stays-by (in_part ends i) (row_at m s c) (λ t to. contained big more b w t (target-below m ok s c t h l to) (stays-at big (row_at m s c) t (b.closed s c h is l e) to)));
    }

-- ---- the end of the search

module _ (m : Mdp) (ok : IsMdp m) (allowed : ℕ → ℕ → Bool) (parts : List ℕ) (comp : AreComponents m allowed parts)
    (keeps : KeepsEnds m allowed) (settled : IsSettled m allowed parts) (ends : List (Option ℕ)) (left : AreLeft m allowed parts ends) where
  abbrev HasChoice : ℕ → Type 0
  HasChoice s = (c : ℕ) × (c < length (choices_at m s)) × (allowed s c ≡ true)

  -- a state with an allowed choice is in a part
  numbered_at : (s : ℕ) → s < states_of m → HasChoice s → (i : ℕ) × (part_of ends s ≡ Some i)
  numbered_at s h w = elim (case-number (part_of ends s)) [
    | inl none ↦ absurd (false≢true (sym (left.none s w.0 h none w.1) ∙ w.2))
    | inr some ↦ some
  ]

  -- so is each state of its component, in the same one
  spreads : (s t i : ℕ) → s < states_of m → t < states_of m → part_of ends s ≡ Some i → get_or parts s 0 ≡ get_or parts t 0 → part_of ends t ≡ Some i
  spreads s t i hs ht e same =
      let joined = (comp.same s t hs ht).0 same in
      let has : HasChoice t = walk_to m ok allowed s HasChoice (left.some s i hs e) (λ x c y hx l a to hy way known. (c, l, a)) t ht joined.1 in
      let j = numbered_at t ht has in
      let k : i ≡ j.0 = (left.same s t i j.0 hs ht e j.1).1 same in
      j.1 ∙ ap Some (sym k)

  pub allowed_inside : (s c i : ℕ) → s < states_of m → part_of ends s ≡ Some i → c < length (choices_at m s) → allowed s c ≡ true → is_inside m ends s c ≡ true
  allowed_inside s c i h e l a =
      inside-is m ends s c i e
      ∙ stays-by (in_part ends i) (row_at m s c)
      (λ t to.
      (let ht = target-below m ok s c t h l to in
      let same = eqb-true (get_or parts t 0) (get_or parts s 0) (stays-at (λ x. get_or parts x 0 == get_or parts s 0) (row_at m s c) t (settled s c h l a) to) in
      has-number i (part_of ends t) (spreads s t i h ht e (sym same))))

  inside_closed : (i s c : ℕ) → s < states_of m → in_part ends i s ≡ true → c < length (choices_at m s) → is_inside m ends s c ≡ true → stays_in (in_part ends i) (row_at m s c) ≡ true
  inside_closed i s c h is l e = sym (inside-is m ends s c i (number-has i (part_of ends s) is)) ∙ e

  allowed_closed : (i s c : ℕ) → s < states_of m → in_part ends i s ≡ true → c < length (choices_at m s) → allowed s c ≡ true → stays_in (in_part ends i) (row_at m s c) ≡ true
  allowed_closed i s c h is l a = inside_closed i s c h is l (allowed_inside s c i h (number-has i (part_of ends s) is) l a)

  pub part_is_end : (i : ℕ) → i < count_of ends → IsEnd m (in_part ends i) (is_inside m ends)
  part_is_end i below = record {
    some = (let w = numbered-has 0 ends i left.numbered (omega arith) below in (w.0, omega (arith, w.1, left.count), has-number i (part_of ends w.0) w.2));
    choice = λ s h is.
        (let e = number-has i (part_of ends s) is in
        let w = left.some s i h e in (w.0, w.1, allowed_inside s w.0 i h e w.1 w.2));
    closed = λ s c h is l e. inside_closed i s c h is l e;
    joined = λ s t hs ht is it.
        (let es = number-has i (part_of ends s) is in
        let et = number-has i (part_of ends t) it in
        let same = (left.same s t i i hs ht es et).0 refl in
        let joined = (comp.same s t hs ht).0 same in
        moved m ok (in_part ends i) allowed (is_inside m ends) (allowed_closed i) (λ x c hx is l a. allowed_inside x c i hx (number-has i (part_of ends x) is) l a) s t hs is joined.0);
  }

  pub each_in_one : (set : ℕ → Bool) (chosen : ℕ → ℕ → Bool) → IsEnd m set chosen → (i : ℕ) × (i < count_of ends) × ((s : ℕ) → s < states_of m → set s ≡ true → in_part ends i s ≡ true)
  each_in_one set chosen a =
      let x = a.some in
      let w = a.choice x.0 x.1 x.2 in
      let j = numbered_at x.0 x.1 (w.0, w.1, keeps set chosen a x.0 w.0 x.1 x.2 w.1 w.2) in (
        j.0,
        numbered-below 0 ends x.0 j.0 left.numbered j.1,
        λ s h is. has-number j.0 (part_of ends s) (spreads x.0 s j.0 x.1 h j.1 (within_one m ok allowed parts comp keeps set chosen a x.0 s x.1 h x.2 is)),
      )

  pub ends_found : AreEnds m ends
  ends_found = record {
    count = left.count;
    maximal = λ i below. maximal_by_each m ok ends each_in_one i (part_is_end i below);
    each = each_in_one;
    numbered = left.numbered;
  }

  -- what is allowed at a state of a part is what is inside
  pub allowed_is_inside : (s c i : ℕ) → s < states_of m → part_of ends s ≡ Some i → c < length (choices_at m s) → is_inside m ends s c ≡ true → allowed s c ≡ true
  allowed_is_inside s c i h e l is = keeps (in_part ends i) (is_inside m ends) (part_is_end i (numbered-below 0 ends s i left.numbered e)) s c h (has-number i (part_of ends s) e) l is
