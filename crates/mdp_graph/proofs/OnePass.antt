-- What a pass finds is one thing: its marks, its ranks and its choices are determined.
use Rattle.std.proofs.{Common.{◌≡◌, ℕ, ◌<◌, inl, inr, Bool, true, false, List, length, refl, sym, ◌∙◌, subst, arith}, lemmas.List.FromFn.{fill_by_all}}
use Rattle.std.specs.Prelude.{slice_index, slice_index_or}
use Rattle.mdp_math.proofs.Booleans.{same_truth}
use Rattle.mdp_spec.specs.Mdp.{Mdp, states_of}
use Rattle.mdp_graph.specs.{Sets.{marked}, Layers.{AreReached, AreLeastRanks}, Choices.{AreLeast}}

-- ---- lists that are the same at each state

pub same_list : {A : Type 0} (n : ℕ) (xs ys : List A) (d : A) → length xs ≡ n → length ys ≡ n → ((s : ℕ) → s < n → slice_index_or xs s d ≡ slice_index_or ys s d)
    → xs ≡ ys
same_list n xs ys d e f h = fill_by_all (λ s. slice_index_or ys s d) xs n d e h ∙ sym (fill_by_all (λ s. slice_index_or ys s d) ys n d f (λ s l. refl))

module _ (step : (ℕ → Bool) → ℕ → Bool) (set : ℕ → Bool) (n : ℕ) where
  pub one_reached : (xs ys : List Bool) → AreReached step set n xs → AreReached step set n ys → xs ≡ ys
  one_reached xs ys a b =
      same_list n xs ys false a.count b.count
      (λ s l. same_truth (marked xs s) (marked ys s) (λ e. (b.marks_reached s l).1 ((a.marks_reached s l).0 e)) (λ e. (a.marks_reached s l).1 ((b.marks_reached s l).0 e)))

  rank_by : (marks : List Bool) (xs ys : List ℕ) (s : ℕ) (e : Bool) → AreLeastRanks step set n marks xs → AreLeastRanks step set n marks ys → s < n → marked marks s ≡ e
      → slice_index xs s ≡ slice_index ys s
  rank_by marks xs ys s true a b l e =
      let i = a.least s (slice_index ys s) l (b.reaches s l e) in let k = b.least s (slice_index xs s) l (a.reaches s l e) in omega arith
  rank_by marks xs ys s false a b l e = a.zero s l e ∙ sym (b.zero s l e)

  pub one_ranks : (marks : List Bool) (xs ys : List ℕ) → AreLeastRanks step set n marks xs → AreLeastRanks step set n marks ys → xs ≡ ys
  one_ranks marks xs ys a b = same_list n xs ys 0 a.count b.count (λ s l. rank_by marks xs ys s (marked marks s) a b l refl)

  -- marks and ranks together
  pub both_ranks : (marks others : List Bool) (xs ys : List ℕ) → AreReached step set n marks → AreLeastRanks step set n marks xs → AreReached step set n others
      → AreLeastRanks step set n others ys → xs ≡ ys
  both_ranks marks others xs ys a i b k = one_ranks marks xs ys i (subst (λ (e : List Bool). AreLeastRanks step set n e ys) (one_reached others marks b a) k)

module _ (m : Mdp) (targets marks : List Bool) (test : ℕ → ℕ → Bool) where
  choice_by : (xs ys : List ℕ) (s : ℕ) (e g : Bool) → AreLeast m targets marks test xs → AreLeast m targets marks test ys → s < states_of m → marked marks s ≡ e → marked targets s ≡ g
      → slice_index xs s ≡ slice_index ys s
  choice_by xs ys s false g a b l e f = a.zero s l (inl e) ∙ sym (b.zero s l (inl e))
  choice_by xs ys s true true a b l e f = a.zero s l (inr f) ∙ sym (b.zero s l (inr f))
  choice_by xs ys s true false a b l e f =
      let i = a.least s (slice_index ys s) l (b.passes s l e f) (b.in_range s l) in
      let k = b.least s (slice_index xs s) l (a.passes s l e f) (a.in_range s l) in
      omega arith

  pub one_choices : (xs ys : List ℕ) → AreLeast m targets marks test xs → AreLeast m targets marks test ys → xs ≡ ys
  one_choices xs ys a b = same_list (states_of m) xs ys 0 a.count b.count (λ s l. choice_by xs ys s (marked marks s) (marked targets s) a b l refl refl)
