-- What is joined of the solved parts meets the rules of the mean payoff.
use Rattle.std.proofs.Common.{◌≡◌, ◌==◌, ℕ, suc, ◌<◌, true, not, List, length, get_or, Option, Some, Ok, sym, ap, ap₂, ◌∙◌, subst, arith, zero-add}
use Rattle.std.proofs.{lemmas.Bool.{eq-eqb}, lemmas.List.FromFn.{get_or-map-range_with_len, length-map-range_with_len}}
use Rattle.std.specs.Prelude.{slice_index}
use Rattle.mdp_math.specs.Rational.{ℚ, ◌+ℚ◌, ◌-ℚ◌, ◌*ℚ◌}
use Rattle.mdp_math.proofs.Kernel.{weigh-same}
use Rattle.mdp_spec.specs.{Mdp.{Entry, Mdp, states_of, choices_at, choice_at, row_at, value_at}, MeanRules.{HasSpread, IsEvaluation}}
use Rattle.mdp_spec.specs.{Row.{row_sum, IsRow, IsMdp, AreRows}, Tree.{IsPolicy}, Unit.{reward_of}}
use Rattle.mdp_rows.specs.{declared.dir.Dir.{Dir}, declared.dir.Dir.TheVariants.{Max, Min}}
use Rattle.mdp_elim.specs.System.{is_active, Leaves}
use Rattle.mdp_policy_iteration.specs.Places.{at_place}
use Rattle.mdp_rows.specs.Better as better
use Rattle.mdp_policy_iteration.proofs.Results.{ok_same, ok_part, place_part}
use Rattle.mdp_ends.specs.{Ends.{part_of, in_part, is_inside, count_of, AreEnds}, Quotient.{nodes_in}, Selection.{exit_row}, Toward.{IsOuter}}
use Rattle.mdp_ends.specs.Join.{IsAsGood, over, moved_by, CanJoin, bound_of, IsCoveredBy, IsReachedBy}
use Rattle.mdp_ends.proofs.{Walking.{stays-at}, Numbering.{numbered-below}, RoundLaws.{has-number, inside-stays}, Joining.{leads-to_entry, joined}}
use Rattle.mdp_ends.proofs.{Lifting.{state_ranks, lifted_leaves}, LiftedRules.{choice-kind, lifted_reaches}}
use Rattle.mdp_quot.specs.{Quotient.{Quotient, IsQuotient}, Outer.{IsBestOuter}, Steps.{IsLongest}}
use Rattle.mdp_gain.specs.{Query.{Answer}, Best.{IsBestInner, bias_at, worth_of}}
use Rattle.mdp_quot.specs.Outer as outer
use Rattle.mdp_quot.proofs.{InModel.{outer-policy, node_below, component-is, row-same}, ForJoin.{at_part, at_exit, falls}}
use Rattle.mdp_farkas.specs.{Mean.{MeetsMean}, Spread.{written_spread}}
use Rattle.mdp_farkas.proofs.Spreading.{written_spread-some}
use Rattle.mdp_mean.specs.Terms.{Joining}
use Rattle.mdp_mean.specs.Join.{Joined, policy_rows, written_bias, written_excess, written_bound, with_bias, with_excess, with_spread, spreading, written_join}
use Rattle.mdp_mean.specs.{Inners.{Inners, AreAnswers}, Best.{AreBest}, Query.{at_nodes, joining}}
use Rattle.mdp_mean.proofs.{BiasOf.{IsBias, bias-is}, ExcessOf.{excess-nonneg, excess-leaving, bound-len, bound-is}}

as_good : (dir : Dir) (x y : ℚ) → better.IsAsGood dir x y → IsAsGood dir x y
as_good Max x y h = h
as_good Min x y h = h

-- what stood in the steps of a join
pub record IsJoined (j : Joining) (y : Joined) : Type 0 where
  pub excess : ℚ
  pub bias_made : written_bias j ≡ Ok y.bias
  pub excess_made : written_excess j ≡ Ok excess
  pub bound_made : written_bound j excess ≡ Ok y.bound
  pub spread_made : written_spread y.bound y.bias ≡ Some y.spread

pub joined-steps : (j : Joining) (y : Joined) → written_join j ≡ Ok y → IsJoined j y
joined-steps j y h =
    let b = ok_part (written_bias j) (with_bias j) y h in
    let d = ok_part (written_excess j) (with_excess j b.0) y b.2 in
    let a = ok_part (written_bound j d.0) (with_spread b.0) y d.2 in
    let w = ok_part (at_place spreading (written_spread a.0 b.0)) (λ w. Ok (record { bound = a.0; bias = b.0; spread = w })) y a.2 in
    let made : Joined = record { bound = a.0; bias = b.0; spread = w.0 } in
    subst (IsJoined j) (ok_same made y w.2)
    (record { excess = d.0; bias_made = b.1; excess_made = d.1; bound_made = a.1; spread_made = place_part spreading (written_spread a.0 b.0) w.0 w.1 })

module _ (dir : Dir) (m : Mdp) (ok : IsMdp m) (r : ℕ) (parts : List (Option ℕ)) (are : AreEnds m parts) (q : Quotient) (is : IsQuotient m parts q) (x : Inners) (inner : AreBest dir m parts r x)
    (o : outer.Answer) (best : IsBestOuter dir q x.gains o) (n : List ℚ) (longest : IsLongest q n) where
  abbrev pub j : Joining
  j = joining dir m r parts q x o n

  abbrev node : ℕ → ℕ
  node s = get_or q.nodes s 0

  abbrev reward : ℕ → ℕ → ℚ
  reward s c = reward_of (choice_at m s c) r

  pub is_outer : IsOuter m parts q.nodes o.policy
  is_outer = outer-policy m ok parts are q is o.policy best.policy

  count-is : length q.exits ≡ nodes_in q.nodes
  count-is = ap length is.exits ∙ length-map-range_with_len _ 0 _

  -- ---- values of nodes, at states

  nodes-at : (v : List ℚ) (s : ℕ) → s < states_of m → value_at (at_nodes m q v) s ≡ value_at v (node s)
  nodes-at v s h = get_or-map-range_with_len (λ s. value_at v (node s)) 0 (states_of m) s s _ h (zero-add s)

  over-nodes : (v : List ℚ) (s c : ℕ) → s < states_of m → c < length (choices_at m s) → row_sum (row_at m s c) (at_nodes m q v) ≡ over (λ t. value_at v (node t)) (row_at m s c)
  over-nodes v s c h l =
      weigh-same (λ (y : Entry). y.target) (λ (y : Entry). y.prob) (value_at (at_nodes m q v)) (λ t. value_at v (node t)) (row_at m s c)
      (λ k d u. let row = ok.row s c h l in nodes-at v _ (row.in_range k d u))

  pub gains-len : length j.gains ≡ states_of m
  gains-len = length-map-range_with_len (λ s. value_at o.values (node s)) 0 (states_of m)

  pub steps-len : length j.steps ≡ states_of m
  steps-len = length-map-range_with_len (λ s. value_at n (node s)) 0 (states_of m)

  -- ---- the end components

  part-below : (s i : ℕ) → part_of parts s ≡ Some i → i < count_of parts
  part-below s i e = numbered-below 0 parts s i are.numbered e

  -- the best answer of a part, and what the join has of it
  pub record At (i : ℕ) : Type 0 where
    a : Answer
    is_best : IsBestInner dir m parts i r a
    answers : AreAnswers m parts i a x

  at : (s i : ℕ) → part_of parts s ≡ Some i → At i
  at s i e = let w = inner.best i (part-below s i e) in record { a = w.0; is_best = w.1; answers = w.2 }

  member : (s i : ℕ) → part_of parts s ≡ Some i → in_part parts i s ≡ true
  member s i e = has-number i (part_of parts s) e

  pub choice-inner : (s i : ℕ) → s < states_of m → part_of parts s ≡ Some i → (slice_index x.choices s < length (choices_at m s)) × (is_inside m parts s (slice_index x.choices s) ≡ true)
  choice-inner s i h e =
      let w = at s i e in
      let t = w.is_best.takes s h (member s i e) in
      let same = sym (w.answers.choices s h (member s i e)) in
      (subst (λ c. c < length (choices_at m s)) same t.choice, subst (λ c. is_inside m parts s c ≡ true) same t.inside)

  -- an inner choice sees the bias of its part alone
  over-inner : (s c i : ℕ) (w : At i) → s < states_of m → c < length (choices_at m s) → is_inside m parts s c ≡ true → part_of parts s ≡ Some i
      → over (value_at x.bias) (row_at m s c) ≡ over (bias_at w.a) (row_at m s c)
  over-inner s c i w h l inside e =
      weigh-same (λ (y : Entry). y.target) (λ (y : Entry). y.prob) (value_at x.bias) (bias_at w.a) (row_at m s c)
      (λ k d u.
      (let row = ok.row s c h l in
      let t : ℕ = Entry.target (get_or (row_at m s c) k d) in
      w.answers.bias t (row.in_range k d u) (stays-at (in_part parts i) (row_at m s c) t (inside-stays m parts s c i e inside) (leads-to_entry (row_at m s c) k d u))))

  bias-inside : (s c i : ℕ) → s < states_of m → c < length (choices_at m s) → is_inside m parts s c ≡ true → part_of parts s ≡ Some i
      → IsAsGood dir (value_at x.gains i +ℚ value_at x.bias s) (reward s c +ℚ over (value_at x.bias) (row_at m s c))
  bias-inside s c i h l inside e =
      let w = at s i e in
      let known = as_good dir _ _ (w.is_best.none_better s c (record { state = h; member = member s i e; choice = l; inside = inside })) in
      let g : w.a.gain +ℚ bias_at w.a s ≡ value_at x.gains i +ℚ value_at x.bias s = ap₂ (λ (g h : ℚ). g +ℚ h) (sym w.answers.gain) (sym (w.answers.bias s h (member s i e))) in
      let v : worth_of m r (bias_at w.a) s c ≡ reward s c +ℚ over (value_at x.bias) (row_at m s c) = ap (λ (z : ℚ). reward s c +ℚ z) (sym (over-inner s c i w h l inside e)) in
      subst (λ (z : ℚ). IsAsGood dir z (reward s c +ℚ over (value_at x.bias) (row_at m s c))) g (subst (λ (z : ℚ). IsAsGood dir (w.a.gain +ℚ bias_at w.a s) z) v known)

  -- ---- the bound

  module _ (d : ℚ) (made : written_excess j ≡ Ok d) where
    can_join : CanJoin m parts q.nodes dir reward (value_at o.values) (value_at x.gains) (value_at x.bias) (value_at n) d
    can_join = record {
      at_part = λ s i h e. at_part m ok parts are q is dir x.gains o best s i h e;
      at_exit = λ s c e. at_exit m ok parts are q is dir x.gains o best s c e.0 e.1 e.2;
      bias_inside = λ s c i e p. bias-inside s c i e.0 e.1 e.2 p;
      falls = λ s c e. falls m ok parts are q is n longest s c e.0 e.1 e.2;
      nonneg = excess-nonneg j d made;
      bias_leaving = λ s c e.
          subst (λ (g : ℚ). IsAsGood dir (moved_by dir (g +ℚ value_at x.bias s) d) (reward s c +ℚ over (value_at x.bias) (row_at m s c))) (nodes-at o.values s e.0)
          (excess-leaving j d made s c e.0 e.1 e.2);
    }

    covered : IsCoveredBy m parts q.nodes dir reward (λ s. value_at o.values (node s)) (bound_of m parts q.nodes dir reward (value_at x.bias) (value_at n) d)
    covered = joined m ok parts are q.nodes is.nodes dir reward (value_at o.values) (value_at x.gains) (value_at x.bias) (value_at n) d can_join

    module _ (a : List ℚ) (bounds : written_bound j d ≡ Ok a) where
      bound-at : (s : ℕ) → s < states_of m → value_at a s ≡ bound_of m parts q.nodes dir reward (value_at x.bias) (value_at n) d s
      bound-at s h = bound-is j d a bounds s h ∙ ap (λ (z : ℚ). moved_by dir (value_at x.bias s) (d *ℚ z)) (nodes-at n s h)

      over-bound : (s c : ℕ) → s < states_of m → c < length (choices_at m s)
          → over (bound_of m parts q.nodes dir reward (value_at x.bias) (value_at n) d) (row_at m s c) ≡ row_sum (row_at m s c) a
      over-bound s c h l =
          sym (weigh-same (λ (y : Entry). y.target) (λ (y : Entry). y.prob) (value_at a) (bound_of m parts q.nodes dir reward (value_at x.bias) (value_at n) d) (row_at m s c)
          (λ k e u. let row = ok.row s c h l in bound-at _ (row.in_range k e u)))

      pub gain_covers : (s c : ℕ) → s < states_of m → c < length (choices_at m s) → IsAsGood dir (value_at j.gains s) (row_sum (row_at m s c) j.gains)
      gain_covers s c h l =
          subst (λ (z : ℚ). IsAsGood dir z (row_sum (row_at m s c) j.gains)) (sym (nodes-at o.values s h))
          (subst (λ (z : ℚ). IsAsGood dir (value_at o.values (node s)) z) (sym (over-nodes o.values s c h l)) (covered.gains s c h l))

      pub bound_covers : (s c : ℕ) → s < states_of m → c < length (choices_at m s) → IsAsGood dir (value_at j.gains s +ℚ value_at a s) (reward s c +ℚ row_sum (row_at m s c) a)
      bound_covers s c h l =
          let g : value_at o.values (node s) +ℚ bound_of m parts q.nodes dir reward (value_at x.bias) (value_at n) d s ≡ value_at j.gains s +ℚ value_at a s =
          ap₂ (λ (g z : ℚ). g +ℚ z) (sym (nodes-at o.values s h)) (sym (bound-at s h)) in
          subst (λ (z : ℚ). IsAsGood dir z (reward s c +ℚ row_sum (row_at m s c) a)) g
          (subst (λ (z : ℚ). IsAsGood dir (value_at o.values (node s) +ℚ bound_of m parts q.nodes dir reward (value_at x.bias) (value_at n) d s) (reward s c +ℚ z)) (over-bound s c h l) (covered.bounds s c h l))

  -- ---- the lifted policy

  stopping : (s : ℕ) → s < states_of m → slice_index o.policy (node s) ≡ 0 → (i : ℕ) × (part_of parts s ≡ Some i)
  stopping s h e = is_outer.stops s h e

  inner-in : (s : ℕ) → s < states_of m → slice_index o.policy (node s) ≡ 0 → (slice_index x.choices s < length (choices_at m s)) × (is_inside m parts s (slice_index x.choices s) ≡ true)
  inner-in s h e = let w = stopping s h e in choice-inner s w.0 h w.1

  gain-taken : (k i : ℕ) → k < nodes_in q.nodes → slice_index o.policy k ≡ suc i → value_at o.values k ≡ over (value_at o.values) (exit_row m parts q.nodes k i)
  gain-taken k i h e =
      let l : k < length q.exits = omega (arith, h, count-is) in
      best.worth.left k i l e ∙ ap (λ (row : List Entry). row_sum row o.values) (row-same m ok parts are q is k i l (best.policy.exits k i l e))

  inner-reached : (s : ℕ) → s < states_of m → slice_index o.policy (node s) ≡ 0
      → value_at o.values (node s) +ℚ value_at x.bias s ≡ reward s (slice_index x.choices s) +ℚ over (value_at x.bias) (row_at m s (slice_index x.choices s))
  inner-reached s h e =
      let p = stopping s h e in
      let w = at s p.0 p.1 in
      let c = choice-inner s p.0 h p.1 in
      let g : value_at o.values (node s) ≡ w.a.gain =
      best.worth.stopped (node s) p.0 (node_below m ok parts are q is s h) e (component-is m ok parts are q is s h ∙ p.1) ∙ w.answers.gain in
      ap₂ (λ (g z : ℚ). g +ℚ z) g (w.answers.bias s h (member s p.0 p.1)) ∙ sym (w.is_best.earns s h (member s p.0 p.1))
      ∙ ap (worth_of m r (bias_at w.a) s) (sym (w.answers.choices s h (member s p.0 p.1)))
      ∙ ap (λ (z : ℚ). reward s (slice_index x.choices s) +ℚ z) (sym (over-inner s (slice_index x.choices s) p.0 w h c.0 c.1 p.1))

  active-at : (s : ℕ) → s < states_of m → is_active j.active s ≡ not (slice_index o.policy (node s) == 0)
  active-at s h = get_or-map-range_with_len (λ s. not (slice_index o.policy (node s) == 0)) 0 (states_of m) s s _ h (zero-add s)

  module _ (b : List ℚ) (is_bias : IsBias j b) where
    pub reached : IsReachedBy m parts q.nodes dir reward (λ s. value_at o.values (node s)) (value_at b) j.policy
    reached =
        lifted_reaches m ok parts are q.nodes is.nodes o.policy is_outer x.choices inner-in dir reward (value_at o.values) gain-taken (value_at b) (value_at x.bias)
        (λ s h e. is_bias.outside s h (active-at s h ∙ ap not (eq-eqb (slice_index o.policy (node s)) 0 e))) inner-reached
        (λ s h e.
        is_bias.inside s h (active-at s h ∙ ap not e)
        ∙ ap (λ (g : ℚ). (reward s (slice_index j.policy s) -ℚ g) +ℚ row_sum (row_at m s (slice_index j.policy s)) b) (nodes-at o.values s h))

    pub evaluation : IsEvaluation m r j.gains b j.policy
    evaluation = record {
      gain = λ s h. over-nodes o.values s (slice_index j.policy s) h (reached.in_range s h) ∙ sym (reached.gains s h) ∙ sym (nodes-at o.values s h);
      bias = λ s h. sym (reached.biases s h) ∙ ap (λ (g : ℚ). g +ℚ value_at b s) (sym (nodes-at o.values s h));
    }

  pub policy-len : length j.policy ≡ states_of m
  policy-len = length-map-range_with_len _ 0 (states_of m)

  pub leaves : Leaves (policy_rows j) j.active (state_ranks m ok parts are q.nodes is.nodes o.policy is_outer x.choices)
  leaves = lifted_leaves m ok parts are q.nodes is.nodes o.policy is_outer x.choices

  rows-len : length (policy_rows j) ≡ states_of m
  rows-len = length-map-range_with_len (λ s. row_at m s (slice_index j.policy s)) 0 (states_of m)

  pub policy-in : (s : ℕ) → s < states_of m → slice_index j.policy s < length (choices_at m s)
  policy-in s h = (choice-kind m ok parts are q.nodes is.nodes o.policy is_outer x.choices inner-in s h).0

  pub policy-is : IsPolicy m j.policy
  policy-is = record { one_each = policy-len; in_range = policy-in }

  pub rows-are : AreRows (policy_rows j)
  rows-are k d l =
      let h : k < states_of m = omega (arith, l, rows-len) in
      subst (λ i. IsRow i (get_or (policy_rows j) k d)) (sym rows-len)
      (subst (λ (row : List Entry). IsRow (states_of m) row) (sym (get_or-map-range_with_len (λ s. row_at m s (slice_index j.policy s)) 0 (states_of m) k k d h (zero-add k)))
      (ok.row k (slice_index j.policy k) h (policy-in k h)))

  pub marks-len : length j.active ≡ states_of m
  marks-len = length-map-range_with_len (λ s. not (slice_index o.policy (node s) == 0)) 0 (states_of m)

  pub can_leave : (ranks : List ℕ) × Leaves (policy_rows j) j.active ranks
  can_leave = (state_ranks m ok parts are q.nodes is.nodes o.policy is_outer x.choices, leaves)

  meets_by : (d : Dir) (a b : List ℚ) (spread : ℚ) → r < length m.names → HasSpread m a b spread
      → ((s c : ℕ) → s < states_of m → c < length (choices_at m s) → IsAsGood d (value_at j.gains s) (row_sum (row_at m s c) j.gains))
      → ((s c : ℕ) → s < states_of m → c < length (choices_at m s) → IsAsGood d (value_at j.gains s +ℚ value_at a s) (reward s c +ℚ row_sum (row_at m s c) a))
      → IsEvaluation m r j.gains b j.policy → MeetsMean d m r j.gains a b spread j.policy
  meets_by Max a b spread named has gains bounds eval = record { named = named; choices = policy-is; spreads = has; gain_covers = gains; bound_covers = bounds; evaluation = eval }
  meets_by Min a b spread named has gains bounds eval = record { named = named; choices = policy-is; spreads = has; gain_covered = gains; bound_covered = bounds; evaluation = eval }

  pub meets : r < length m.names → (y : Joined) → written_join j ≡ Ok y → MeetsMean dir m r j.gains y.bound y.bias y.spread j.policy
  meets named y made =
      let steps = joined-steps j y made in
      let bias = bias-is j rows-are marks-len can_leave.0 can_leave.1 y.bias steps.bias_made in
      meets_by dir y.bound y.bias y.spread named
      (record { bounds = bound-len j steps.excess y.bound steps.bound_made; biases = bias.len; widest = written_spread-some y.bound y.bias y.spread (sym steps.spread_made) })
      (gain_covers steps.excess steps.excess_made y.bound steps.bound_made) (bound_covers steps.excess steps.excess_made y.bound steps.bound_made) (evaluation y.bias bias)
