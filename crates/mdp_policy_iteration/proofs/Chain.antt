-- The chain of a policy: its rows and its active nodes, node by node, and a weight that shrinks where the policy leaves them.
use Rattle.std.proofs.Common.{◌≡◌, ℕ, suc, ◌<◌, ◌≤◌, ◌⊎◌, inl, inr, Bool, true, false, List, [], ◌∷◌, length, refl, sym, ◌∙◌, ap, subst, arith, pos, zero-add, rules}
use Rattle.std.proofs.{Math.ListN.{get_or-eq_default}, lemmas.List.FromFn.{get_or-map-range_with_len, length-map-range_with_len}}
use Rattle.std.proofs.{lemmas.List.Elements.{All-nil, All-cons}, lemmas.List.{get_or_default}}
use Rattle.std.specs.{List.{All, Any}, Prelude.{slice_index, slice_index_or}}
use Rattle.mdp_math.specs.{Rational.{ℚ, of_int, ◌+ℚ◌, ◌≤ℚ◌, ◌<ℚ◌}, Sum.{sum_of}, Kernel.{weigh}}
use Rattle.mdp_math.proofs.{Ring.{◌⊕◌, lit, ring}, Laws.{rat_ring}, Numbers.{le_or}, Whole.{one-pos}, Order.{0ℚ, 1ℚ, ≤ℚ_trans, ≤ℚ_of_lt, ≤ℚ_of_eq}}
use Rattle.mdp_math.proofs.{Floors.{ForSmall, small_for_below, positive_floor, greatest_rank}, Kernel.{Any-and}, Weight.{Shrinks, shrinks_by_ranks}}
use Rattle.mdp_spec.specs.{Mdp.{Entry, value_at}, Row.{IsRow, AreRows, row_sum}}
use Rattle.mdp_elim.specs.{System.{is_active, row_of}, Laws.{LeavingChain}}
use Rattle.mdp_policy_iteration.specs.Problem.{Problem, Node, given, decision, Move, stop, go, no_choice, count, node_at, choices_at, choices_of}
use Rattle.mdp_policy_iteration.specs.Problem.{goes_on, amount, row_from, move_by, taken, active_of, rows_of, LeadsWithin, IsProblem, IsCandidate, IsPolicy, worth}
use Rattle.mdp_policy_iteration.specs.{Values.{CanLeave}, Code.{CanTake}}
use Rattle.mdp_policy_iteration.proofs.Turned.{turn, turn-add, turn-row}

-- the target and the probability of an entry
abbrev pub target : Entry → ℕ
target y = y.target

abbrev pub prob : Entry → ℚ
prob y = y.prob

module _ (p : Problem) (policy : List ℕ) where
  pub row-at : (s : ℕ) → s < count p → row_of (rows_of p policy) s ≡ row_from s (taken p policy s)
  row-at s l = get_or-map-range_with_len (λ s. row_from s (taken p policy s)) 0 (count p) s s [] l (zero-add s)

  pub active-at : (s : ℕ) → s < count p → is_active (active_of p policy) s ≡ goes_on (taken p policy s)
  active-at s l = get_or-map-range_with_len (λ s. goes_on (taken p policy s)) 0 (count p) s s false l (zero-add s)

  pub rows-len : length (rows_of p policy) ≡ count p
  rows-len = length-map-range_with_len (λ s. row_from s (taken p policy s)) 0 (count p)

  pub active-len : length (active_of p policy) ≡ count p
  active-len = length-map-range_with_len (λ s. goes_on (taken p policy s)) 0 (count p)

  -- past the last node nothing is active
  active_past : (s : ℕ) → (count p ≤ s) ⊎ (s < count p) → is_active (active_of p policy) s ≡ true → s < count p
  active_past s (inl l) a =
      let n = active-len in let m : length (active_of p policy) ≤ s = omega arith in let e = get_or-eq_default (active_of p policy) false m in absurd (let k : true ≡ false = sym a ∙ e in cc)
  active_past s (inr l) a = l

  pub active-below : (s : ℕ) → is_active (active_of p policy) s ≡ true → s < count p
  active-below s a = active_past s (le_or (count p) s) a

-- an active node's move
pub record Goes (m : Move) : Type 0 where
  pub earned : ℚ
  pub row : List Entry
  pub is : m ≡ go earned row

pub goes_by : (m : Move) → goes_on m ≡ true → Goes m
goes_by (stop v) e = cc
goes_by (go r row) e = record { earned = r; row = row; is = refl }

pub record Stops (m : Move) : Type 0 where
  pub value : ℚ
  pub is : m ≡ stop value

pub stops_by : (m : Move) → goes_on m ≡ false → Stops m
stops_by (stop v) e = record { value = v; is = refl }
stops_by (go r row) e = cc

-- a node that stops has its loop
pub row-stops : (s : ℕ) (m : Move) → goes_on m ≡ false → row_from s m ≡ (let y : Entry = record { target = s; prob = of_int (pos 1) } in y ∷ [])
row-stops s (stop v) e = refl
row-stops s (go r es) e = cc

-- ---- distributions

pub loop : (n s : ℕ) → s < n → IsRow n (let y : Entry = record { target = s; prob = of_int (pos 1) } in y ∷ [])
loop n s l = let y : Entry = record { target = s; prob = of_int (pos 1) } in record {
  distribution = record {
    ascending = search rules;
    positive = All-cons (λ x. of_int (pos 0) <ℚ x.prob) y [] one-pos (All-nil (λ x. of_int (pos 0) <ℚ x.prob));
    total = ring rat_ring 0 (lit (pos 1) ⊕ lit (pos 0)) (lit (pos 1)) refl;
  };
  in_range = All-cons (λ x. x.target < n) y [] l (All-nil (λ x. x.target < n));
}

row_by : (n s : ℕ) (m : Move) → s < n → LeadsWithin n m → IsRow n (row_from s m)
row_by n s (stop v) l h = loop n s l
row_by n s (go r row) l h = h

leads_by : (p : Problem) (s c : ℕ) (node : Node) → IsProblem p → s < count p → node_at p s ≡ node → IsCandidate node c → LeadsWithin (count p) (move_by node c)
leads_by p s c (given v) known l e h = tt
leads_by p s c (decision choices) known l e h =
    subst (λ (k : Node). LeadsWithin (count p) (slice_index_or (choices_of k) c no_choice).move) e
    (known.rows s c l (let q : length (choices_at p s) ≡ length choices = ap (λ (k : Node). length (choices_of k)) e in omega (arith, h.0)))

module _ (p : Problem) (policy : List ℕ) (known : IsProblem p) (is : IsPolicy p policy) where
  pub row-is : (s : ℕ) → s < count p → IsRow (count p) (row_from s (taken p policy s))
  row-is s l = row_by (count p) s (taken p policy s) l (leads_by p s (slice_index policy s) (node_at p s) known l refl (is.candidate s l))

  -- the row of an active node
  pub row_active : (s : ℕ) → is_active (active_of p policy) s ≡ true → IsRow (count p) (row_of (rows_of p policy) s)
  row_active s a = let l = active-below p policy s a in subst (IsRow (count p)) (sym (row-at p policy s l)) (row-is s l)

  abbrev pub Taken : ℕ → List Entry → Type 0
  Taken s row = row ≡ row_of (rows_of p policy) s

  abbrev pub ChainShrinks : Type 0
  ChainShrinks = Shrinks target prob (is_active (active_of p policy)) Taken

  pub chain-shrinks : CanLeave p policy → ChainShrinks
  chain-shrinks leaves =
      let active : ℕ → Bool = is_active (active_of p policy) in
      let row : ℕ → List Entry = row_of (rows_of p policy) in
      let rank : ℕ → ℕ = slice_index leaves.0 in
      let small : ForSmall (λ e. (s : ℕ) → s < count p → active s ≡ true → All (λ y. e ≤ℚ y.prob) (row s)) =
      small_for_below (λ s e. active s ≡ true → All (λ y. e ≤ℚ y.prob) (row s)) (λ s d e l h a k x j. ≤ℚ_trans d e _ l (h a k x j)) (count p)
      (λ s l.
      let f = positive_floor prob (row_from s (taken p policy s)) (IsRow.distribution (row-is s l)).positive in
      (f.0, f.1, f.2, λ a. subst (λ (r : List Entry). All (λ y. f.0 ≤ℚ y.prob) r) (sym (row-at p policy s l)) f.3)) in
      let most = greatest_rank (λ s. suc (rank s)) (count p) in
      shrinks_by_ranks {index = target} {entry = prob} {active = active} {Allowed = Taken} {eps = small.0} {rank = λ s. suc (rank s)} {most = most.0}
      (record {
        eps_positive = small.1;
        eps_at_most_one = small.2;
        rank_positive = λ s a. omega arith;
        rank_at_most = λ s a. most.1 s (active-below p policy s a);
        entries = λ s r a ok. subst (λ (r : List Entry). All (λ y. 0ℚ ≤ℚ y.prob) r) (sym ok) (λ k d l. ≤ℚ_of_lt 0ℚ _ ((row_active s a).distribution.positive k d l));
        mass = λ s r a ok. subst (λ (r : List Entry). sum_of prob r ≤ℚ 1ℚ) (sym ok) (≤ℚ_of_eq _ _ (row_active s a).distribution.total);
        falls = λ s r a ok.
            let both = Any-and (λ (y : Entry). small.0 ≤ℚ y.prob) (λ (y : Entry). (active y.target ≡ false) ⊎ (rank y.target < rank s)) (row s)
            (small.3 s (active-below p policy s a) a) (leaves.2.falls s (let n = rows-len p policy in let l = active-below p policy s a in omega arith) a) in
            subst (λ (r : List Entry). Any (λ y. (small.0 ≤ℚ y.prob) × ((active y.target ≡ false) ⊎ (suc (rank y.target) < suc (rank s)))) r) (sym ok)
            (both.0, both.1, both.2, both.3, (both.4.0, smaller (active (target both.1) ≡ false) (rank (target both.1)) (rank s) both.4.1));
      })
    where
      smaller : (P : Type 0) (i k : ℕ) → P ⊎ (i < k) → P ⊎ (suc i < suc k)
      smaller P i k (inl h) = inl h
      smaller P i k (inr h) = inr (omega arith)

  pub chain_rows : AreRows (rows_of p policy)
  chain_rows = λ k d l.
      let n = rows-len p policy in
      let m : k < count p = omega arith in
      subst (λ (r : List Entry). IsRow (length (rows_of p policy)) r) (get_or_default (rows_of p policy) k [] d l)
      (subst (λ (i : ℕ). IsRow i (row_of (rows_of p policy) k)) (sym n) (subst (IsRow (count p)) (sym (row-at p policy k m)) (row-is k m)))

  pub leaving_chain : (leaves : CanLeave p policy) → LeavingChain (rows_of p policy) (active_of p policy) leaves.0
  leaving_chain leaves = record { distributions = chain_rows; marks = active-len p policy ∙ sym (rows-len p policy); leaves = leaves.2 }

take_by : (node : Node) (c : ℕ) → IsCandidate node c → CanTake node c
take_by (given v) c h = tt
take_by (decision choices) c h = h.0

-- a node has the choice that the policy takes
pub can_take : (p : Problem) (policy : List ℕ) → IsPolicy p policy → (s : ℕ) → s < count p → CanTake (node_at p s) (slice_index policy s)
can_take p policy is s l = take_by (node_at p s) (slice_index policy s) (is.candidate s l)

-- ---- sums, turned

module _ (p : Problem) (policy : List ℕ) (z : List ℚ) where
  turned_sum : (s : ℕ) (m : Move) → goes_on m ≡ true → turn p.dir (worth z m) ≡ turn p.dir (amount m) +ℚ weigh target prob (λ s. turn p.dir (value_at z s)) (row_from s m)
  turned_sum s (stop u) e = cc
  turned_sum s (go r es) e = turn-add p.dir r (row_sum es z) ∙ ap (λ (o : ℚ). turn p.dir r +ℚ o) (turn-row p.dir es z)

  -- what the move of an active node is worth
  pub sum-at : (s : ℕ) → is_active (active_of p policy) s ≡ true
      → turn p.dir (worth z (taken p policy s)) ≡ turn p.dir (amount (taken p policy s)) +ℚ weigh target prob (λ s. turn p.dir (value_at z s)) (row_of (rows_of p policy) s)
  sum-at s a =
      let l = active-below p policy s a in
      turned_sum s (taken p policy s) (sym (active-at p policy s l) ∙ a)
      ∙ ap (λ (r : List Entry). turn p.dir (amount (taken p policy s)) +ℚ weigh target prob (λ s. turn p.dir (value_at z s)) r) (sym (row-at p policy s l))
