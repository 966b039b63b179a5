-- What a choice of the discounted reward reads: the targets of its row in the model. The node behind the states is missing: its value is given.
use Rattle.std.proofs.Common.{◌≡◌, ℕ, ◌<◌, ◌⊎◌, inl, inr, Bool, true, List, length, Option, None, if◌then◌else◌, ap, ap₂, subst, arith}
use Rattle.std.proofs.lemmas.List.Elements.{All-from_recursion, recursion_from_All}
use Rattle.std.specs.List.{All}
use Rattle.mdp_math.specs.{Rational.{ℚ}, Written.{written_add, written_mul, ◌>>=◌}}
use Rattle.mdp_num.specs.Equal.{eq_ℚ}
use Rattle.mdp_spec.specs.{Mdp.{Entry, Mdp, states_of, choices_at, choice_at, row_at}, Row.{entries}, Unit.{reward_of}}
use Rattle.mdp_rows.specs.declared.dir.Dir.{Dir}
use Rattle.mdp_policy_iteration.specs.{Problem.{Problem}, Reads.{IsGiven, AgreeAt, LeadsTo, Reads}}
use Rattle.mdp_policy_iteration.proofs.Reading.{HoldTarget, entries-among, reads-by}
use Rattle.mdp_elim.proofs.Others.{written_sum-agree}
use Rattle.mdp_discount.specs.Problem.{0ℚ, scaled, has_value, discounted_row, discount_choice, discount_problem}
use Rattle.mdp_discount.proofs.{ScaledRows.{discounted-each}, Nodes.{node-count, end-node, state-choice}}

module _ (dir : Dir) (m : Mdp) (r : ℕ) (f : ℚ) (s c : ℕ) (nodes : List ℕ) (held : All (HoldTarget nodes) (row_at m s c)) where
  abbrev p : Problem
  p = discount_problem dir m r f

  end_given : IsGiven p (states_of m)
  end_given = (0ℚ, end-node dir m r f)

  abbrev Leads : Entry → Type 0
  Leads e = HoldTarget nodes e ⊎ IsGiven p e.target

  discount-leads : LeadsTo p nodes (discount_choice m r f s c).move
  discount-leads =
      All-from_recursion Leads (discounted_row (states_of m) f (row_at m s c))
      (discounted-each (states_of m) f Leads (inr end_given) (row_at m s c)
      (recursion_from_All (λ e. has_value (scaled f e) ≡ true → Leads (scaled f e)) (row_at m s c) (λ k d l v. inl (held k d l))))

  discount-same : (x y : List ℚ) → AgreeAt p nodes x y → (discount_choice m r f s c).written x ≡ (discount_choice m r f s c).written y
  discount-same x y agree =
      ap₂ (λ (b : Bool) (o : Option ℚ). if b then o else None)
      (ap (λ (v : ℚ). eq_ℚ v 0ℚ) (agree.fixed (states_of m) end_given))
      (ap (λ (o : Option ℚ). o >>= (λ sum. written_mul f sum >>= (λ later. written_add (reward_of (choice_at m s c) r) later)))
      (written_sum-agree x y 0ℚ (row_at m s c) (λ k d l. agree.listed _ (held k d l))))

-- the row is lent with these targets
pub discount-reads : (dir : Dir) (m : Mdp) (r : ℕ) (f : ℚ) (s c : ℕ) (ts : List ℕ) (ps : List ℚ) → s < states_of m → c < length (choices_at m s)
    → All (λ t. t < states_of m) ts → entries ts ps ≡ row_at m s c → Reads (discount_problem dir m r f) s c ts
discount-reads dir m r f s c ts ps l i below lent =
    let held : All (HoldTarget ts) (row_at m s c) = subst (λ (row : List Entry). All (HoldTarget ts) row) lent (entries-among ts ps) in
    reads-by (discount_problem dir m r f) s c ts (λ k d h. omega (arith, below k d h, node-count dir m r f)) (discount_choice m r f s c) (state-choice dir m r f s c l i)
    (discount-leads dir m r f s c ts held) (discount-same dir m r f s c ts held)
