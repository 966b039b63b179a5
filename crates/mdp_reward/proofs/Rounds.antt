-- The rounds of the states outside the greatest sure set are determined.
use Rattle.std.proofs.Common.{◌≡◌, ℕ, zero, suc, ◌+◌, ◌<◌, ◌≤◌, ◌⊎◌, inl, inr, Bool, true, false, ◌||◌, ◌==◌, nat_lt, lt-ltb, List, length, refl, sym, ◌∙◌, ap, subst, arith}
use Rattle.std.proofs.{Math.ListN.{get_or-eq_default}, lemmas.Bool.{eqb-true}}
use Rattle.std.specs.Prelude.{slice_index}
use Rattle.mdp_math.proofs.{Booleans.{same_truth}, Numbers.{le_or}}
use Rattle.mdp_spec.specs.Mdp.{Mdp, states_of}
use Rattle.mdp_graph.specs.Rounds.{AreRounds, left_after, CanStay}
use Rattle.mdp_reward.proofs.Rows.{lt_of_test}
use Rattle.mdp_graph.proofs.OnePass.{same_list}

-- a state of round a is left after i rounds
abbrev left : ℕ → ℕ → Bool
left a i = (a == 0) || nat_lt i a

or_right : (a b : Bool) → b ≡ true → (a || b) ≡ true
or_right true b e = refl
or_right false b e = e

left_true : (a i : ℕ) → (a ≡ 0) ⊎ (i < a) → left a i ≡ true
left_true a i (inl e) = ap (λ (k : ℕ). (k == 0) || nat_lt i k) e
left_true a i (inr l) = or_right (a == 0) (nat_lt i a) (lt-ltb i a l)

of_left_by : (a i : ℕ) (b : Bool) → (a == 0) ≡ b → (b || nat_lt i a) ≡ true → (a ≡ 0) ⊎ (i < a)
of_left_by a i true e h = inl (eqb-true a 0 e)
of_left_by a i false e h = inr (lt_of_test i a h)

of_left : (a i : ℕ) → left a i ≡ true → (a ≡ 0) ⊎ (i < a)
of_left a i h = of_left_by a i (a == 0) refl h

none_left : (b k : ℕ) → 0 < b → b ≤ k → (b ≡ 0) ⊎ (k < b) → ⊥
none_left b k l i (inl e) = omega arith
none_left b k l i (inr h) = omega arith

not_less : (a b : ℕ) → ((i : ℕ) → left a i ≡ left b i) → a < b → ⊥
not_less zero b h l = none_left b b (omega arith) (omega arith) (of_left b b (sym (h b) ∙ left_true 0 b (inl refl)))
not_less (suc a) b h l = none_left (suc a) (suc a) (omega arith) (omega arith) (of_left (suc a) (suc a) (h (suc a) ∙ left_true b (suc a) (inr l)))

same_round : (a b : ℕ) → ((i : ℕ) → left a i ≡ left b i) → a ≡ b
same_round a b h = same (le_or a b) (le_or b a)
  where
    same : (a ≤ b) ⊎ (b < a) → (b ≤ a) ⊎ (a < b) → a ≡ b
    same (inr l) k = absurd (not_less b a (λ i. sym (h i)) l)
    same (inl l) (inr k) = absurd (not_less a b h k)
    same (inl l) (inl k) = omega arith

-- after no round each state is left
all_left : (a : ℕ) → left a 0 ≡ true
all_left zero = refl
all_left (suc a) = left_true (suc a) 0 (inr (omega arith))

module _ (m : Mdp) (goals : List Bool) (xs ys : List ℕ) (a : AreRounds m goals xs) (b : AreRounds m goals ys) where
  past : (zs : List ℕ) → length zs ≡ states_of m → (s : ℕ) → states_of m ≤ s → slice_index zs s ≡ 0
  past zs n s l = let k : length zs ≤ s = omega arith in get_or-eq_default zs 0 k

  same_at : (i s : ℕ) → ((t : ℕ) → left_after xs i t ≡ left_after ys i t) → (states_of m ≤ s) ⊎ (s < states_of m) → left_after xs (i + 1) s ≡ left_after ys (i + 1) s
  same_at i s h (inl l) = ap (λ (k : ℕ). left k (i + 1)) (past xs a.count s l ∙ sym (past ys b.count s l))
  same_at i s h (inr l) =
      let sets : left_after xs i ≡ left_after ys i = λ j t. h t j in
      same_truth (left_after xs (i + 1) s) (left_after ys (i + 1) s)
      (λ e. (b.next i s l).1 (subst (λ (set : ℕ → Bool). CanStay m goals set s) sets ((a.next i s l).0 e)))
      (λ e. (a.next i s l).1 (subst (λ (set : ℕ → Bool). CanStay m goals set s) (sym sets) ((b.next i s l).0 e)))

  same_after : (i s : ℕ) → left_after xs i s ≡ left_after ys i s
  same_after zero s = all_left (slice_index xs s) ∙ sym (all_left (slice_index ys s))
  same_after (suc i) s =
      let n : i + 1 ≡ suc i = omega arith in
      subst (λ (k : ℕ). left_after xs k s ≡ left_after ys k s) n (same_at i s (same_after i) (le_or (states_of m) s))

  pub one_rounds : xs ≡ ys
  one_rounds = same_list (states_of m) xs ys 0 a.count b.count (λ s l. same_round (slice_index xs s) (slice_index ys s) (λ i. same_after i s))
