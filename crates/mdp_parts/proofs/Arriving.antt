-- The laws of end components, and that a pass within one arrives with probability 1.
use Rattle.std.proofs.{Common.{◌≡◌, ℕ, ◌<◌, true, false, ◌&&◌, nat_lt, ltb-true, length, get_or, sym, ◌∙◌, subst, arith}, lemmas.Bool.{and_parts}}
use Rattle.std.proofs.lemmas.List.Folds.{Any-from_list_any}
use Rattle.mdp_spec.specs.{Mdp.{Entry, states_of, choices_at, row_at}, Tree.{unfolded}}
use Rattle.mdp_spec.proofs.{Arrives.{arrives_by_ranks}, Keeping.{Follows, keeps_unfolded}}
use Rattle.mdp_graph.specs.{Sets.{marked, can_enter, stays_in}, Reach.{falls}}
use Rattle.mdp_graph.proofs.RowSets.{list_all-at, enters-at, enters-by}
use Rattle.mdp_ends.specs.Ends.{in_part, is_inside, part_of}
use Rattle.mdp_ends.proofs.{Walking.{stays-at, stays-by, target-below}, RoundLaws.{number-has, inside-stays}, EndLaws.{maximal_share_none}}
use Rattle.mdp_ends.proofs.{Existing.{within_part, maximal_is_part}, OneNumbering.{one_components, one_ends}, TowardLaws.{toward_marks}}
use Rattle.mdp_parts.specs.Laws.{MaximalShareNone, EachWithinOne, MaximalAreParts, ComponentsAreOne, EndsAreOne, TowardArrives}

pub share_none : MaximalShareNone
share_none m set chosen other more ok a b s h is it = (maximal_share_none m ok set chosen other more a b s h is it, maximal_share_none m ok other more set chosen b a s h it is)

pub each_within_one : EachWithinOne
each_within_one m ends set chosen ok are a = within_part m ok ends are set chosen a

pub maximal_are_parts : MaximalAreParts
maximal_are_parts m ends set chosen ok are a = maximal_is_part m ok ends are set chosen a

pub components_are_one : ComponentsAreOne
components_are_one m allowed parts others a b = one_components m allowed parts others a b

pub ends_are_one : EndsAreOne
ends_are_one m ends others a b = one_ends m ends others a b

pub toward_arrives : TowardArrives
toward_arrives m ends i target marks ranks policy ok are below x hx x_in x_is t s k h is hk =
    let l = t.chosen in
    let marks_are : (s : ℕ) → s < states_of m → marked marks s ≡ in_part ends i s = toward_marks m ok ends are i below target marks t.reaches x hx x_in x_is in
    let kept : (s c : ℕ) → s < states_of m → marked marks s ≡ true → marked target s ≡ false → Follows policy s c → c < length (choices_at m s) → stays_in (marked marks) (row_at m s c) ≡ true =
    λ s c h e not_target p j.
    (let d : ℕ = get_or policy s 0 in
    let q = and_parts (is_inside m ends s d) (falls m marks ranks s d) (l.passes s h e not_target) in
    let own = number-has i (part_of ends s) (sym (marks_are s h) ∙ e) in
    subst (λ (d : ℕ). stays_in (marked marks) (row_at m s d) ≡ true) (sym p)
    (stays-by (marked marks) (row_at m s d) (λ y to. marks_are y (target-below m ok s d y h (l.in_range s h) to)
    ∙ stays-at (in_part ends i) (row_at m s d) y (inside-stays m ends s d i own q.0) to))) in
    let fall : (s c : ℕ) → s < states_of m → marked marks s ≡ true → marked target s ≡ false → Follows policy s c → c < length (choices_at m s)
    → can_enter (λ y. nat_lt (get_or ranks y 0) (get_or ranks s 0)) (row_at m s c) ≡ true =
    λ s c h e not_target p j.
    (let d : ℕ = get_or policy s 0 in
    let q = and_parts (is_inside m ends s d) (falls m marks ranks s d) (l.passes s h e not_target) in
    let z = enters-at (λ y. marked marks y && nat_lt (get_or ranks y 0) (get_or ranks s 0)) (row_at m s d) (states_of m) (ok.row s d h (l.in_range s h)).in_range q.1 in
    let both = and_parts (marked marks z.0) (nat_lt (get_or ranks z.0 0) (get_or ranks s 0)) z.3 in
    subst (λ (d : ℕ). can_enter (λ y. nat_lt (get_or ranks y 0) (get_or ranks s 0)) (row_at m s d) ≡ true) (sym p)
    (enters-by (λ y. nat_lt (get_or ranks y 0) (get_or ranks s 0)) (row_at m s d) z.0 z.2 both.1)) in
    let a =
    arrives_by_ranks m target ok (Follows policy) (marked marks) (λ y. get_or ranks y 0) (λ s c h g e p j. λ k d l. list_all-at (λ (y : Entry). marked marks y.target) (row_at m s c) d
    (kept s c h e g p j) k l)
    (λ s c h g e p j.
    (let f = Any-from_list_any (λ (y : Entry). nat_lt (get_or ranks y.target 0) (get_or ranks s 0)) (row_at m s c) (fall s c h e g p j) in
    (f.0, f.1, f.2, f.3, ltb-true _ (get_or ranks s 0) f.4))) k hk in
    (a.0, a.1 a.0 1 (unfolded m policy a.0 s) s (omega arith) (omega arith) h (marks_are s h ∙ is) (keeps_unfolded m policy a.0 s ok (record { one_each = l.count; in_range = l.in_range }) h))
