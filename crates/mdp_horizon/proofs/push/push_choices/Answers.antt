use Rattle.std.proofs.{Common.{◌≡◌, ℕ, ◌+◌, ◌<◌, List, ◌∷◌, ◌++◌, length, take, get_or, decimal, refl, ap, sym, ◌∙◌}, lemmas.List.{take_more, flat_map_more}}
use Rattle.mdp_text.proofs.Fronts.{keeps_more}
use Rattle.mdp_horizon.specs.Spelling.{choice_words}
use Rattle.mdp_horizon.proofs.push.push_choices.Goals as goal

one_more : (old out new xs : List ℕ) (i n : ℕ) → i < length xs → n ≡ get_or xs i 0 → out ≡ old ++ choice_words (take i xs) → new ≡ out ++ 32 ∷ decimal n
    → new ≡ old ++ choice_words (take (i + 1) xs)
one_more old out new xs i n h e made next =
    next ∙ ap (λ (n : ℕ). out ++ 32 ∷ decimal n) e ∙ ap (λ (t : List ℕ). t ++ 32 ∷ decimal (get_or xs i 0)) made
    ∙ flat_map_more (λ c. 32 ∷ decimal c) old (take i xs) (get_or xs i 0) ∙ ap (λ (ys : List ℕ). old ++ choice_words ys) (sym (take_more xs i 0 h))

pub loop-choice-preserved : goal.loop-choice-preserved
loop-choice-preserved c = record {
  made = one_more _ _ _ c.args.choices.now _ _ c.loop-choice-test.true refl c.loop-choice.invariant.made (c.in_ok-push_choice.ensures {u = tt}).text;
  front = keeps_more _ _ _ c.loop-choice.invariant.front c.push_choice.ensures.front;
}
