-- What a policy of the problem does at each state: at goals and at states that aren't open it stops, and an open state goes on by its choice.
use Rattle.std.proofs.{Common.{◌≡◌, ℕ, ◌<◌, Bool, true, false, List, length, refl, sym, ◌∙◌, ap, subst, arith, pos}, lemmas.Bool.{false≢true}}
use Rattle.std.specs.Prelude.{slice_index}
use Rattle.mdp_math.specs.Rational.{of_int}
use Rattle.mdp_spec.specs.{Mdp.{Mdp, states_of, row_at, choices_at}, Tree.{is_marked}}
use Rattle.mdp_spec.specs.Tree as tree
use Rattle.mdp_rows.specs.declared.dir.Dir.{Dir}
use Rattle.mdp_elim.specs.System.{is_active, row_of}
use Rattle.mdp_policy_iteration.specs.Problem.{Problem, Node, given, decision, Choice, stop, go, count, node_at, goes_on, amount, row_from, move_by, taken, active_of, rows_of, IsCandidate, IsPolicy}
use Rattle.mdp_policy_iteration.proofs.Chain.{row-at, active-at, active-below}
use Rattle.mdp_reach.specs.Problem.{is_open, node_by, reach_problem}
use Rattle.mdp_reach.proofs.Nodes.{goings, going-at, goings-len, reach-count, reach-at}

module _ (dir : Dir) (m : Mdp) (goals marks : List Bool) where
  abbrev pub p : Problem
  p = reach_problem dir m goals marks

  abbrev pub open_at : ℕ → Bool
  open_at s = is_open dir (is_marked marks s)

  -- a state of the model is a node
  pub is_node : (s : ℕ) → s < states_of m → s < count p
  is_node s l = let n = reach-count dir m goals marks in omega arith

  pub is_state : (s : ℕ) → s < count p → s < states_of m
  is_state s l = let n = reach-count dir m goals marks in omega arith

  pub goal-node : (s : ℕ) → s < states_of m → is_marked goals s ≡ true → node_at p s ≡ given (of_int (pos 1))
  goal-node s l g = reach-at dir m goals marks s (is_node s l) ∙ ap (λ (b : Bool). node_by m s b (open_at s)) g

  pub closed-node : (s : ℕ) → s < states_of m → is_marked goals s ≡ false → open_at s ≡ false → node_at p s ≡ given (of_int (pos 0))
  closed-node s l g o =
      reach-at dir m goals marks s (is_node s l) ∙ ap (λ (b : Bool). node_by m s b (open_at s)) g ∙ ap (λ (b : Bool). node_by m s false b) o

  pub open-node : (s : ℕ) → s < states_of m → is_marked goals s ≡ false → open_at s ≡ true → node_at p s ≡ decision (goings m s)
  open-node s l g o =
      reach-at dir m goals marks s (is_node s l) ∙ ap (λ (b : Bool). node_by m s b (open_at s)) g ∙ ap (λ (b : Bool). node_by m s false b) o

  -- ---- one choice in range for each state is a policy of the problem

  candidate_by : (s c : ℕ) (g o : Bool) → c < length (choices_at m s) → IsCandidate (node_by m s g o) c
  candidate_by s c true o l = tt
  candidate_by s c false true l = let n = goings-len m s in (omega arith, ap Choice.candidate (going-at m s c l))
  candidate_by s c false false l = tt

  pub is-policy : (policy : List ℕ) → tree.IsPolicy m policy → IsPolicy p policy
  is-policy policy is = record {
    one_each = is.one_each ∙ sym (reach-count dir m goals marks);
    candidate = λ s l.
        subst (λ (n : Node). IsCandidate n (slice_index policy s)) (sym (reach-at dir m goals marks s l))
        (candidate_by s (slice_index policy s) (is_marked goals s) (open_at s) (is.in_range s (is_state s l)));
  }

  -- ---- what it does

  module _ (policy : List ℕ) (is : IsPolicy p policy) where
    abbrev choice : ℕ → ℕ
    choice s = slice_index policy s

    pub goal-move : (s : ℕ) → s < states_of m → is_marked goals s ≡ true → taken p policy s ≡ stop (of_int (pos 1))
    goal-move s l g = ap (λ (n : Node). move_by n (choice s)) (goal-node s l g)

    pub closed-move : (s : ℕ) → s < states_of m → is_marked goals s ≡ false → open_at s ≡ false → taken p policy s ≡ stop (of_int (pos 0))
    closed-move s l g o = ap (λ (n : Node). move_by n (choice s)) (closed-node s l g o)

    pub open-choice : (s : ℕ) → s < states_of m → is_marked goals s ≡ false → open_at s ≡ true → choice s < length (choices_at m s)
    open-choice s l g o =
        let k = subst (λ (n : Node). IsCandidate n (choice s)) (open-node s l g o) (is.candidate s (is_node s l)) in
        let n = goings-len m s in
        omega (arith, k.0)

    pub open-move : (s : ℕ) → s < states_of m → is_marked goals s ≡ false → open_at s ≡ true → taken p policy s ≡ go (of_int (pos 0)) (row_at m s (choice s))
    open-move s l g o = ap (λ (n : Node). move_by n (choice s)) (open-node s l g o) ∙ ap Choice.move (going-at m s (choice s) (open-choice s l g o))

    pub open-active : (s : ℕ) → s < states_of m → is_marked goals s ≡ false → open_at s ≡ true → is_active (active_of p policy) s ≡ true
    open-active s l g o = active-at p policy s (is_node s l) ∙ ap goes_on (open-move s l g o)

    -- an active state is open
    pub record IsOpen (s : ℕ) : Type 0 where
      pub below : s < states_of m
      pub no_goal : is_marked goals s ≡ false
      pub is_open : open_at s ≡ true

    active_by : (s : ℕ) (g o : Bool) → s < states_of m → is_marked goals s ≡ g → open_at s ≡ o → is_active (active_of p policy) s ≡ true → IsOpen s
    active_by s true o l eg eo a = absurd (false≢true (sym (ap goes_on (goal-move s l eg)) ∙ sym (active-at p policy s (is_node s l)) ∙ a))
    active_by s false true l eg eo a = record { below = l; no_goal = eg; is_open = eo }
    active_by s false false l eg eo a = absurd (false≢true (sym (ap goes_on (closed-move s l eg eo)) ∙ sym (active-at p policy s (is_node s l)) ∙ a))

    pub active-open : (s : ℕ) → is_active (active_of p policy) s ≡ true → IsOpen s
    active-open s a = active_by s (is_marked goals s) (open_at s) (is_state s (active-below p policy s a)) refl refl a

    -- its row is that of its choice, and it earns nothing
    pub open-row : (s : ℕ) → IsOpen s → row_of (rows_of p policy) s ≡ row_at m s (choice s)
    open-row s h = row-at p policy s (is_node s h.below) ∙ ap (row_from s) (open-move s h.below h.no_goal h.is_open)

    pub open-amount : (s : ℕ) → IsOpen s → amount (taken p policy s) ≡ of_int (pos 0)
    open-amount s h = ap amount (open-move s h.below h.no_goal h.is_open)
