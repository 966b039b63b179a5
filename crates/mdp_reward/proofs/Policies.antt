-- What a policy of the problem does at each state: a transient state goes on by its choice, and all others stop with 0.
use Rattle.std.proofs.{Common.{◌≡◌, ℕ, ◌<◌, Bool, true, false, List, length, refl, sym, ◌∙◌, ap, subst, arith, pos}, lemmas.Bool.{false≢true}}
use Rattle.std.specs.Prelude.{slice_index}
use Rattle.mdp_math.specs.Rational.{of_int}
use Rattle.mdp_spec.specs.Mdp.{Mdp, states_of, row_at, choices_at}
use Rattle.mdp_spec.specs.Tree as tree
use Rattle.mdp_rows.specs.declared.dir.Dir.{Dir}
use Rattle.mdp_elim.specs.System.{is_active, row_of}
use Rattle.mdp_policy_iteration.specs.Problem.{Problem, Node, given, decision, Choice, stop, go, count, node_at, goes_on, amount, row_from, move_by, taken, active_of, rows_of, IsCandidate, IsPolicy}
use Rattle.mdp_policy_iteration.proofs.Chain.{row-at, active-at, active-below}
use Rattle.mdp_reward.specs.Problem.{may_take, is_transient, node_by, reward_problem}
use Rattle.mdp_reward.proofs.Nodes.{earned, goings, going-at, goings-len, reward-count, reward-at}

module _ (dir : Dir) (m : Mdp) (r : ℕ) (goals finite : List Bool) where
  abbrev pub p : Problem
  p = reward_problem dir m r goals finite

  abbrev pub transient : ℕ → Bool
  transient s = is_transient goals finite s

  -- a state of the model is a node
  pub is_node : (s : ℕ) → s < states_of m → s < count p
  is_node s l = let n = reward-count dir m r goals finite in omega arith

  pub is_state : (s : ℕ) → s < count p → s < states_of m
  is_state s l = let n = reward-count dir m r goals finite in omega arith

  pub given-node : (s : ℕ) → s < states_of m → transient s ≡ false → node_at p s ≡ given (of_int (pos 0))
  given-node s l e = reward-at dir m r goals finite s (is_node s l) ∙ ap (λ (b : Bool). node_by dir m r finite s b) e

  pub transient-node : (s : ℕ) → s < states_of m → transient s ≡ true → node_at p s ≡ decision (goings dir m r finite s)
  transient-node s l e = reward-at dir m r goals finite s (is_node s l) ∙ ap (λ (b : Bool). node_by dir m r finite s b) e

  -- ---- one choice in range for each state, which a policy may take where the state is transient, is a policy of the problem

  abbrev pub MayTake : List ℕ → Type 0
  MayTake policy = (s : ℕ) → s < states_of m → transient s ≡ true → may_take dir finite (row_at m s (slice_index policy s)) ≡ true

  candidate_by : (s c : ℕ) (b : Bool) → c < length (choices_at m s) → (b ≡ true → may_take dir finite (row_at m s c) ≡ true) → IsCandidate (node_by dir m r finite s b) c
  candidate_by s c true l may = let n = goings-len dir m r finite s in (omega arith, ap Choice.candidate (going-at dir m r finite s c l) ∙ may refl)
  candidate_by s c false l may = tt

  pub is-policy : (policy : List ℕ) → tree.IsPolicy m policy → MayTake policy → IsPolicy p policy
  is-policy policy is may = record {
    one_each = is.one_each ∙ sym (reward-count dir m r goals finite);
    candidate = λ s l.
        subst (λ (n : Node). IsCandidate n (slice_index policy s)) (sym (reward-at dir m r goals finite s l))
        (candidate_by s (slice_index policy s) (transient s) (is.in_range s (is_state s l)) (may s (is_state s l)));
  }

  -- ---- what it does

  module _ (policy : List ℕ) (is : IsPolicy p policy) where
    abbrev choice : ℕ → ℕ
    choice s = slice_index policy s

    pub given-move : (s : ℕ) → s < states_of m → transient s ≡ false → taken p policy s ≡ stop (of_int (pos 0))
    given-move s l e = ap (λ (n : Node). move_by n (choice s)) (given-node s l e)

    candidate : (s : ℕ) → s < states_of m → transient s ≡ true → IsCandidate (decision (goings dir m r finite s)) (choice s)
    candidate s l e = subst (λ (n : Node). IsCandidate n (choice s)) (transient-node s l e) (is.candidate s (is_node s l))

    pub transient-choice : (s : ℕ) → s < states_of m → transient s ≡ true → choice s < length (choices_at m s)
    transient-choice s l e = let k = candidate s l e in let n = goings-len dir m r finite s in omega (arith, k.0)

    pub transient-may : (s : ℕ) → s < states_of m → transient s ≡ true → may_take dir finite (row_at m s (choice s)) ≡ true
    transient-may s l e = sym (ap Choice.candidate (going-at dir m r finite s (choice s) (transient-choice s l e))) ∙ (candidate s l e).1

    pub transient-move : (s : ℕ) → s < states_of m → transient s ≡ true → taken p policy s ≡ go (earned dir m r finite s (choice s)) (row_at m s (choice s))
    transient-move s l e = ap (λ (n : Node). move_by n (choice s)) (transient-node s l e) ∙ ap Choice.move (going-at dir m r finite s (choice s) (transient-choice s l e))

    pub transient-active : (s : ℕ) → s < states_of m → transient s ≡ true → is_active (active_of p policy) s ≡ true
    transient-active s l e = active-at p policy s (is_node s l) ∙ ap goes_on (transient-move s l e)

    -- an active state is transient
    pub record IsOpen (s : ℕ) : Type 0 where
      pub below : s < states_of m
      pub is_open : transient s ≡ true

    active_by : (s : ℕ) (b : Bool) → s < states_of m → transient s ≡ b → is_active (active_of p policy) s ≡ true → IsOpen s
    active_by s true l e a = record { below = l; is_open = e }
    active_by s false l e a = absurd (false≢true (sym (ap goes_on (given-move s l e)) ∙ sym (active-at p policy s (is_node s l)) ∙ a))

    pub active-open : (s : ℕ) → is_active (active_of p policy) s ≡ true → IsOpen s
    active-open s a = active_by s (transient s) (is_state s (active-below p policy s a)) refl a

    -- its row is that of its choice, and it earns that choice's reward
    pub open-row : (s : ℕ) → IsOpen s → row_of (rows_of p policy) s ≡ row_at m s (choice s)
    open-row s h = row-at p policy s (is_node s h.below) ∙ ap (row_from s) (transient-move s h.below h.is_open)

    pub open-amount : (s : ℕ) → IsOpen s → amount (taken p policy s) ≡ earned dir m r finite s (choice s)
    open-amount s h = ap amount (transient-move s h.below h.is_open)
