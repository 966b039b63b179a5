-- One more end component is solved.
use Rattle.std.proofs.Common.{◌≡◌, ◌==◌, ◌&&◌, ◌||◌, ℕ, suc, ◌+◌, ◌<◌, inl, inr, Bool, true, false, true≢false, cond, List, [], length-append}
use Rattle.std.proofs.Common.{◌∷◌, ◌++◌, length, get_or, Option, Some, None, Ok, Err, refl, sym, ap, ◌∙◌, subst, arith, zero-add}
use Rattle.std.proofs.{Math.Seq.{get_or-append_seam}, lemmas.Bool.{cases_Bool, eqb-true, eq-eqb, false≢true}, lemmas.List.{get_or_append_left}}
use Rattle.std.proofs.{lemmas.List.Elements.{All-filter}, lemmas.List.FromFn.{get_or-range_with_len, length-range_with_len}, lemmas.Map.Views.{any-filter_same}}
use Rattle.std.specs.{List.{range_with_len, list_any}, Prelude.{slice_index}}
use Rattle.mdp_math.specs.Rational.{ℚ}
use Rattle.mdp_math.proofs.Numbers.{last_or}
use Rattle.mdp_spec.specs.Mdp.{Mdp, states_of, value_at}
use Rattle.mdp_rows.specs.declared.dir.Dir.{Dir}
use Rattle.mdp_ends.specs.Ends.{part_of, has_number, in_part, count_of}
use Rattle.mdp_ends.proofs.{Walking.{some-any}, RoundLaws.{number-has}}
use Rattle.mdp_gain.specs.{Query.{Answer, members}, Best.{IsBestInner, entry_of}}
use Rattle.mdp_gain.specs.Query as inner
use Rattle.mdp_wide.specs.Term.{WideTerm}
use Rattle.mdp_farkas.specs.Compare.{0ℚ}
use Rattle.mdp_mean.specs.{Inners.{Inners, AreAnswers, AreInners, Answered, InnersEndSo}, Best.{IsBest, AreBest}, PartsCode.{IsEmpty, IsAdded}}

-- ---- entries

module _ {A : Type 0} where
  out_by : (d : A) (s t : ℕ) (states : List ℕ) (x : A) (xs : List A) (b : Bool) → (t == s) ≡ b → (list_any (λ t. t == s) (t ∷ states) ≡ false)
      → (list_any (λ t. t == s) states ≡ false → entry_of d states xs s ≡ d) → cond b x (entry_of d states xs s) ≡ d
  out_by d s t states x xs true e out rest = absurd (true≢false (sym (ap (λ b. b || list_any (λ t. t == s) states) e) ∙ out))
  out_by d s t states x xs false e out rest = rest (sym (ap (λ b. b || list_any (λ t. t == s) states) e) ∙ out)

  entry-out : (d : A) (states : List ℕ) (xs : List A) (s : ℕ) → list_any (λ t. t == s) states ≡ false → entry_of d states xs s ≡ d
  entry-out d [] xs s e = refl
  entry-out d (t ∷ states) [] s e = refl
  entry-out d (t ∷ states) (x ∷ xs) s e = out_by d s t states x xs (t == s) refl e (entry-out d states xs s)

  in_by : (d f : A) (s t : ℕ) (states : List ℕ) (x : A) (xs : List A) (b : Bool) → (t == s) ≡ b → (list_any (λ t. t == s) (t ∷ states) ≡ true)
      → (list_any (λ t. t == s) states ≡ true → entry_of d states xs s ≡ entry_of f states xs s) → cond b x (entry_of d states xs s) ≡ cond b x (entry_of f states xs s)
  in_by d f s t states x xs true e here rest = refl
  in_by d f s t states x xs false e here rest = rest (sym (ap (λ b. b || list_any (λ t. t == s) states) e) ∙ here)

  -- the entry of a state that has one
  entry-in : (d f : A) (states : List ℕ) (xs : List A) (s : ℕ) → length xs ≡ length states → list_any (λ t. t == s) states ≡ true → entry_of d states xs s ≡ entry_of f states xs s
  entry-in d f [] xs s l e = absurd (false≢true e)
  entry-in d f (t ∷ states) [] s l e = absurd (omega (arith, l))
  entry-in d f (t ∷ states) (x ∷ xs) s l e = in_by d f s t states x xs (t == s) refl e (entry-in d f states xs s (omega (arith, l)))

-- ---- the states of a part

module _ (m : Mdp) (parts : List (Option ℕ)) (i : ℕ) where
  member-by : (s : ℕ) → list_any (λ t. t == s) (members m parts i) ≡ (in_part parts i s && list_any (λ t. t == s) (range_with_len 0 (states_of m)))
  member-by s =
      any-filter_same (λ t. t == s) (in_part parts i) (in_part parts i s) (λ k e. ap (in_part parts i) (eqb-true k s e)) (range_with_len 0 (states_of m))

  in-range : (s : ℕ) → s < states_of m → list_any (λ t. t == s) (range_with_len 0 (states_of m)) ≡ true
  in-range s h =
      some-any (λ t. t == s) (range_with_len 0 (states_of m)) 0 s (omega (arith, h, length-range_with_len 0 (states_of m)))
      (eq-eqb (get_or (range_with_len 0 (states_of m)) s 0) s (get_or-range_with_len 0 (states_of m) s 0 h ∙ zero-add s))

  pub member-is : (s : ℕ) → s < states_of m → in_part parts i s ≡ true → list_any (λ t. t == s) (members m parts i) ≡ true
  member-is s h e = member-by s ∙ ap (λ b. b && list_any (λ t. t == s) (range_with_len 0 (states_of m))) e ∙ in-range s h

  pub member-not : (s : ℕ) → in_part parts i s ≡ false → list_any (λ t. t == s) (members m parts i) ≡ false
  member-not s e = member-by s ∙ ap (λ b. b && list_any (λ t. t == s) (range_with_len 0 (states_of m))) e

  pub members-below : (k : ℕ) → k < length (members m parts i) → get_or (members m parts i) k 0 < states_of m
  members-below k h =
      All-filter (in_part parts i) (λ s. s < states_of m) (range_with_len 0 (states_of m))
      (λ j d l.
      (let u : j < states_of m = omega (arith, l, length-range_with_len 0 (states_of m)) in
      let e : get_or (range_with_len 0 (states_of m)) j d ≡ 0 + j = get_or-range_with_len 0 (states_of m) j d u in omega (arith, u, e))) k 0 h

-- ---- the first i end components

module _ (dir : Dir) (m : Mdp) (parts : List (Option ℕ)) (r : ℕ) where
  -- they are solved, and have their best gains
  pub record Keeps (i : ℕ) (x : Inners) : Type 0 where
    pub inners : AreInners dir m parts r i x
    pub best : (k : ℕ) → k < i → IsBest dir m parts r k x

  pub keeps-none : (x : Inners) → IsEmpty (states_of m) x → Keeps 0 x
  keeps-none x e = record {
    inners = record {
      gain_each = e.gain_each;
      bias_each = e.bias_each;
      choice_each = e.choice_each;
      answered = λ k l. absurd (omega (arith, l));
      no_bias = λ s h p. e.no_bias s;
      no_choice = λ s h p. e.no_choice s;
    };
    best = λ k l. absurd (omega (arith, l));
  }

  module _ (i : ℕ) (a : Answer) (x y : Inners) (keeps : Keeps i x) (added : IsAdded a x y) (best : IsBestInner dir m parts i r a) where
    not-here : (k s : ℕ) → k < i → in_part parts k s ≡ true → in_part parts i s ≡ false
    not-here k s l e = elim (cases_Bool (in_part parts i s)) as (λ _. in_part parts i s ≡ false) [
      | inl here ↦
          (let p = number-has k (part_of parts s) e in
          let q = number-has i (part_of parts s) here in
          let same : k ≡ i = (let w : (let z : Option ℕ = Some k in z) ≡ Some i = sym p ∙ q in cc) in absurd (omega (arith, l, same)))
      | inr out ↦ out
    ]

    none-here : (s : ℕ) → part_of parts s ≡ None → in_part parts i s ≡ false
    none-here s e = ap (has_number i) e

    out-bias : (s : ℕ) → in_part parts i s ≡ false → value_at y.bias s ≡ value_at x.bias s
    out-bias s e =
        added.bias s ∙ entry-out (value_at x.bias s) a.states a.bias s (subst (λ (states : List ℕ). list_any (λ t. t == s) states ≡ false) (sym best.states) (member-not m parts i s e))

    out-choice : (s : ℕ) → in_part parts i s ≡ false → slice_index y.choices s ≡ slice_index x.choices s
    out-choice s e =
        added.choices s ∙ entry-out (slice_index x.choices s) a.states a.choices s (subst (λ (states : List ℕ). list_any (λ t. t == s) states ≡ false) (sym best.states) (member-not m parts i s e))

    here : AreAnswers m parts i a y
    here = record {
      gain =
          ap (λ (g : List ℚ). value_at g i) added.gains
          ∙ subst (λ k. value_at (x.gains ++ a.gain ∷ []) k ≡ a.gain) keeps.inners.gain_each (get_or-append_seam x.gains a.gain [] 0ℚ);
      bias = λ s h e.
          added.bias s
          ∙ entry-in (value_at x.bias s) 0ℚ a.states a.bias s best.biases (subst (λ (states : List ℕ). list_any (λ t. t == s) states ≡ true) (sym best.states) (member-is m parts i s h e));
      choices = λ s h e.
          added.choices s
          ∙ entry-in (slice_index x.choices s) 0 a.states a.choices s best.choices (subst (λ (states : List ℕ). list_any (λ t. t == s) states ≡ true) (sym best.states) (member-is m parts i s h e));
    }

    as-before : (k : ℕ) → k < i → (b : Answer) → AreAnswers m parts k b x → AreAnswers m parts k b y
    as-before k l b e = record {
      gain =
          ap (λ (g : List ℚ). value_at g k) added.gains
          ∙ get_or_append_left x.gains (a.gain ∷ []) 0ℚ k (omega (arith, l, keeps.inners.gain_each)) ∙ e.gain;
      bias = λ s h p. out-bias s (not-here k s l p) ∙ e.bias s h p;
      choices = λ s h p. out-choice s (not-here k s l p) ∙ e.choices s h p;
    }

    pub keeps-one : inner.EndsSo dir m parts i r (Ok a) → Keeps (suc i) y
    keeps-one ends = record {
      inners = record {
        gain_each = ap length added.gains ∙ length-append x.gains (a.gain ∷ []) ∙ (let g = keeps.inners.gain_each in omega (arith, g));
        bias_each = added.bias_each ∙ keeps.inners.bias_each;
        choice_each = added.choice_each ∙ keeps.inners.choice_each;
        answered = λ k l. elim (last_or i k l) as (λ _. Answered dir m parts r k y) [
          | inl q ↦ subst (λ n. Answered dir m parts r n y) (sym q) (a, ends, here)
          | inr u ↦ (let w = keeps.inners.answered k u in (w.0, w.1, as-before k u w.0 w.2))
        ];
        no_bias = λ s h p. out-bias s (none-here s p) ∙ keeps.inners.no_bias s h p;
        no_choice = λ s h p. out-choice s (none-here s p) ∙ keeps.inners.no_choice s h p;
      };
      best = λ k l. elim (last_or i k l) as (λ _. IsBest dir m parts r k y) [
        | inl q ↦ subst (λ n. IsBest dir m parts r n y) (sym q) (a, best, here)
        | inr u ↦ (let w = keeps.best k u in (w.0, w.1, as-before k u w.0 w.2))
      ];
    }

  pub keeps-all : (x : Inners) → Keeps (count_of parts) x → AreBest dir m parts r x
  keeps-all x k = record { gain_each = k.inners.gain_each; bias_each = k.inners.bias_each; choice_each = k.inners.choice_each; best = k.best; no_bias = k.inners.no_bias }

  pub refused-at : (i : ℕ) (x : Inners) → Keeps i x → i < count_of parts → (w : WideTerm) → inner.EndsSo dir m parts i r (Err w) → InnersEndSo dir m parts r (Err w)
  refused-at i x k l w ends = (i, record { below = l; before = λ n h. (let p = k.inners.answered n h in (p.0, p.1)); here = ends })
