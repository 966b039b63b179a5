-- The end components of a model are all solved, or the first that has a term past width ends it.
use Rattle.std.proofs.Common.{◌≡◌, ◌⊎◌, inl, inr, ℕ, zero, suc, ◌<◌, ◌≤◌, List, [], map, get_or, Option, Some, None, Result, Ok, Err}
use Rattle.std.proofs.{Common.{sym, ap, ◌∙◌, subst, arith, zero-add}, lemmas.List.FromFn.{get_or-map-range_with_len, length-map-range_with_len}}
use Rattle.std.specs.List.{range_with_len}
use Rattle.mdp_math.specs.Rational.{ℚ}
use Rattle.mdp_math.proofs.Numbers.{le_or, last_or}
use Rattle.mdp_spec.specs.{Mdp.{Mdp, states_of}, Row.{IsMdp}}
use Rattle.mdp_rows.specs.declared.dir.Dir.{Dir}
use Rattle.mdp_wide.specs.Term.{WideTerm}
use Rattle.mdp_ends.specs.Ends.{part_of, count_of, AreEnds}
use Rattle.mdp_ends.proofs.RoundLaws.{number-has}
use Rattle.mdp_gain.specs.{Query.{Answer}, Best.{bias_at, taken_at}}
use Rattle.mdp_gain.specs.Query as inner
use Rattle.mdp_gain.specs.Laws as gain
use Rattle.mdp_farkas.specs.Compare.{0ℚ}
use Rattle.mdp_mean.specs.Inners.{Inners, AreInners, IsRefused, InnersEndSo}

module _ (dir : Dir) (m : Mdp) (ok : IsMdp m) (r : ℕ) (once : gain.HasOneEnd) (parts : List (Option ℕ)) (are : AreEnds m parts) where
  abbrev HasAnswer : ℕ → Type 0
  HasAnswer k = (a : Answer) × inner.EndsSo dir m parts k r (Ok a)

  -- ---- the first n have answers, or one of them is refused

  abbrev Tried : ℕ → Type 0
  Tried n = ((k : ℕ) → k < n → HasAnswer k) ⊎ ((w : WideTerm) × (i : ℕ) × IsRefused dir m parts r i w)

  tried_one : (n : ℕ) → n < count_of parts → ((k : ℕ) → k < n → HasAnswer k) → (p : Result Answer WideTerm) → inner.EndsSo dir m parts n r p → Tried (suc n)
  tried_one n l all (Ok a) e = inl (λ k h. elim (last_or n k h) as (λ _. HasAnswer k) [ inl q ↦ subst (λ k. HasAnswer k) (sym q) (a, e) | inr u ↦ all k u ])
  tried_one n l all (Err w) e = inr (w, n, record { below = l; before = all; here = e })

  tried : (n : ℕ) → n ≤ count_of parts → Tried n
  tried zero l = inl (λ k h. absurd (omega (arith, h)))
  tried (suc n) l = elim (tried n (omega (arith, l))) as (λ _. Tried (suc n)) [
    | inl all ↦
        (let below : n < count_of parts = omega (arith, l) in
        let e = once dir m parts n r (record { model = ok; ends = are; below = below }) in tried_one n below all e.0 e.1)
    | inr w ↦ inr w
  ]

  -- ---- all have answers

  module _ (answers : (k : ℕ) → k < count_of parts → HasAnswer k) where
    abbrev answer_by : (k : ℕ) → (count_of parts ≤ k) ⊎ (k < count_of parts) → Answer
    answer_by k (inl l) = record { states = []; gain = 0ℚ; bias = []; choices = [] }
    answer_by k (inr l) = (answers k l).0

    abbrev answer : ℕ → Answer
    answer k = answer_by k (le_or (count_of parts) k)

    ends_by : (k : ℕ) (o : (count_of parts ≤ k) ⊎ (k < count_of parts)) → k < count_of parts → inner.EndsSo dir m parts k r (Ok (answer_by k o))
    ends_by k (inl l) h = absurd (omega (arith, l, h))
    ends_by k (inr l) h = (answers k l).1

    abbrev gain_at : ℕ → ℚ
    gain_at i = (answer i).gain

    abbrev bias_by : ℕ → Option ℕ → ℚ
    bias_by s None = 0ℚ
    bias_by s (Some i) = bias_at (answer i) s

    abbrev choice_by : ℕ → Option ℕ → ℕ
    choice_by s None = 0
    choice_by s (Some i) = taken_at (answer i) s

    abbrev inners : Inners
    inners = record {
      gains = map gain_at (range_with_len 0 (count_of parts));
      bias = map (λ s. bias_by s (part_of parts s)) (range_with_len 0 (states_of m));
      choices = map (λ s. choice_by s (part_of parts s)) (range_with_len 0 (states_of m));
    }

    bias-is : (s : ℕ) (o : Option ℕ) → s < states_of m → part_of parts s ≡ o → get_or inners.bias s 0ℚ ≡ bias_by s o
    bias-is s o h e = get_or-map-range_with_len (λ s. bias_by s (part_of parts s)) 0 (states_of m) s s 0ℚ h (zero-add s) ∙ ap (bias_by s) e

    choice-is : (s : ℕ) (o : Option ℕ) → s < states_of m → part_of parts s ≡ o → get_or inners.choices s 0 ≡ choice_by s o
    choice-is s o h e = get_or-map-range_with_len (λ s. choice_by s (part_of parts s)) 0 (states_of m) s s 0 h (zero-add s) ∙ ap (choice_by s) e

    are-inners : AreInners dir m parts r (count_of parts) inners
    are-inners = record {
      gain_each = length-map-range_with_len gain_at 0 (count_of parts);
      bias_each = length-map-range_with_len (λ s. bias_by s (part_of parts s)) 0 (states_of m);
      choice_each = length-map-range_with_len (λ s. choice_by s (part_of parts s)) 0 (states_of m);
      answered = λ i l. (
        answer i,
        ends_by i (le_or (count_of parts) i) l,
        record {
          gain = get_or-map-range_with_len gain_at 0 (count_of parts) i i 0ℚ l (zero-add i);
          bias = λ s h e. bias-is s (Some i) h (number-has i (part_of parts s) e);
          choices = λ s h e. choice-is s (Some i) h (number-has i (part_of parts s) e);
        },
      );
      no_bias = λ s h e. bias-is s None h e;
      no_choice = λ s h e. choice-is s None h e;
    }

  pub inners_end : (x : Result Inners WideTerm) × InnersEndSo dir m parts r x
  inners_end = elim (tried (count_of parts) (omega arith)) as (λ _. (x : Result Inners WideTerm) × InnersEndSo dir m parts r x) [
    | inl all ↦ (Ok (inners all), are-inners all)
    | inr w ↦ (Err w.0, (w.1, w.2))
  ]
