-- A part of the maximal end components of a model is a component whose states are the part's.
use Rattle.std.proofs.Common.{◌≡◌, ◌≢◌, ℕ, ◌<◌, ◌≤◌, ◌⊎◌, inl, inr, true, List, length, Option, None, sym, ◌∙◌, ap, arith}
use Rattle.std.proofs.{lemmas.Bool.{false≢true, and_parts, and_from}, Math.ListN.{get_or-eq_default}}
use Rattle.std.specs.List.{Any}
use Rattle.mdp_math.proofs.Numbers.{le_or}
use Rattle.mdp_spec.specs.Mdp.{Mdp, states_of, choices_at, row_at}
use Rattle.mdp_rows.specs.declared.dir.Dir.{Dir}
use Rattle.mdp_ends.specs.Ends.{has_number, in_part, is_inside, IsEnd, IsMaximal, AreEnds}
use Rattle.mdp_ends.proofs.Walking.{stays-at}
use Rattle.mdp_unichain.specs.Component as component
use Rattle.mdp_unichain.specs.{Component.{Component, Choice, IsInner, is_state, IsComponent}, Model.{choice_of, IsInside, IsEndComponent}}
use Rattle.mdp_unichain.specs.Part.{IsPart, is_inner, inner_component}
use Rattle.mdp_unichain.proofs.{Entries.{target-any, target-all}, Ranks.{LeadsNearer, walk_rank, walk_falls}, Trees.{choice_of-at}}
use Rattle.mdp_unichain.proofs.Members.{count-is, choices-len, end_component_is}

module _ (m : Mdp) (parts : List (Option ℕ)) (i : ℕ) (k : IsPart m parts i) where
  the_end : IsEnd m (in_part parts i) (is_inside m parts)
  the_end = IsMaximal.is_end (AreEnds.maximal (IsPart.ends k) i (IsPart.below k))

  member-by : (s : ℕ) → in_part parts i s ≡ true → (states_of m ≤ s) ⊎ (s < states_of m) → s < states_of m
  member-by s h (inl l) =
      let n = AreEnds.count (IsPart.ends k) in
      let none = get_or-eq_default parts None (omega (arith, n, l)) in
      absurd (false≢true (ap (has_number i) (sym none) ∙ h))
  member-by s h (inr l) = l

  pub member-below : (s : ℕ) → in_part parts i s ≡ true → s < states_of m
  member-below s h = member-by s h (le_or (states_of m) s)

  pub inner_inside : (s c : ℕ) → is_inner m parts i s c ≡ true → is_inside m parts s c ≡ true
  inner_inside s c h = (and_parts (in_part parts i s) (is_inside m parts s c) h).1

  pub inner_member : (s c : ℕ) → is_inner m parts i s c ≡ true → in_part parts i s ≡ true
  inner_member s c h = (and_parts (in_part parts i s) (is_inside m parts s c) h).0

  pub inside_inner : (s c : ℕ) → in_part parts i s ≡ true → is_inside m parts s c ≡ true → is_inner m parts i s c ≡ true
  inside_inner s c h e = and_from (in_part parts i s) (is_inside m parts s c) h e

  connected_to : (t : ℕ) → in_part parts i t ≡ true
      → (rank : ℕ → ℕ) × ((s : ℕ) → in_part parts i s ≡ true → s ≢ t → (c : ℕ) × IsInside m (is_inner m parts i) s c × Any (λ y. rank y.target < rank s) (row_at m s c))
  connected_to t h =
      let walks = λ (s : ℕ) (e : in_part parts i s ≡ true). IsEnd.joined the_end s t (member-below s e) (member-below t h) e h in (
        walk_rank m (is_inside m parts) t (in_part parts i) walks,
        λ s e o.
            let n = walk_falls m (is_inside m parts) t (in_part parts i) walks s e o in (
              LeadsNearer.choice n,
              (member-below s e, LeadsNearer.below n, inside_inner s (LeadsNearer.choice n) e (LeadsNearer.taken n)),
              target-any (row_at m s (LeadsNearer.choice n)) _ (LeadsNearer.target n) (LeadsNearer.leads n) (LeadsNearer.smaller n),
            ),
      )

  pub end_component : IsEndComponent m (in_part parts i) (is_inner m parts i)
  end_component = record {
    choice = λ s h. let c = IsEnd.choice the_end s (member-below s h) h in (c.0, (member-below s h, c.1, inside_inner s c.0 h c.2));
    from = λ s c h. inner_member s c h.2;
    stays = λ s c h.
        target-all (row_at m s c) (λ t. in_part parts i t ≡ true)
        (λ t l. stays-at (in_part parts i) (row_at m s c) t (IsEnd.closed the_end s c h.0 (inner_member s c h.2) h.1 (inner_inside s c h.2)) l);
    connected = connected_to;
  }

  module _ (dir : Dir) (r : ℕ) where
    abbrev p : Component
    p = inner_component dir m parts i r

    pub part-component : IsComponent p
    part-component = (end_component_is dir m r (in_part parts i) (is_inner m parts i) (IsPart.model k) end_component).0

    pub part-state : (s : ℕ) → is_state p s ≡ in_part parts i s
    part-state s = (end_component_is dir m r (in_part parts i) (is_inner m parts i) (IsPart.model k) end_component).1 s

-- ---- numbers of states and choices, and what each choice is, whatever the part

module _ (dir : Dir) (m : Mdp) (parts : List (Option ℕ)) (i r : ℕ) where
  pub part-count : component.count (inner_component dir m parts i r) ≡ states_of m
  part-count = count-is dir m r (is_inner m parts i)

  pub part-choices : (s : ℕ) → s < states_of m → length (component.choices_at (inner_component dir m parts i r) s) ≡ length (choices_at m s)
  part-choices s l = choices-len dir m r (is_inner m parts i) s l

  pub part-choice : (s c : ℕ) → s < states_of m → c < length (choices_at m s) → component.choice_at (inner_component dir m parts i r) s c ≡ choice_of m r (is_inner m parts i) s c
  part-choice s c l k = choice_of-at dir m r (is_inner m parts i) s c l k
