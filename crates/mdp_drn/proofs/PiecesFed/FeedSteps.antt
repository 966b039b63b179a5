-- What the steps of a feed leave.
use Rattle.std.proofs.Common.{◌≡◌, ℕ, ◌+◌, ◌-◌, ◌<◌, ◌≤◌, Bool, true, false, cond, ltb, List, [], ◌∷◌}
use Rattle.std.proofs.{Common.{◌++◌, length, Option, Some, None, Result, Ok, is_some, sym, ap, subst, ◌∙◌, arith}, lemmas.List.{length-append}}
use Rattle.std.proofs.lemmas.Bool.Decides.{nat_tests}
use Rattle.std.specs.{Prelude.{IfSome}, List.{All}}
use Rattle.mdp_drn.specs.{declared.error.DrnKind.TheVariants.{LongLine}, declared.error.DrnError.{DrnError}, Lines.{is_line_feed}, Outcome.{◌>>=◌, Refusal}}
use Rattle.mdp_drn.specs.{Reading.{Document, named, longest_line, at_line, at_end, outcome}, Ending.{ended}}
use Rattle.mdp_drn.specs.Feeding.{Refusing, Reading, stand_from, stand_of, stand_with, Fails}
use Rattle.mdp_drn.specs.declared.error.DrnError.TheVariants as error
use Rattle.mdp_rows.specs.declared.rule.RowRule.{RowRule}
use Rattle.mdp_drn.proofs.PiecesFed.StandGrows.{stand-tail, stand-closed, stand-whole, end-reading, end-refusing, keeps}

module _ (rule : RowRule) (d : Document) (tail : List ℕ) where
  abbrev pub Stood : Option DrnError → List ℕ → Type 0
  Stood refused bytes = IfSome (stand_with refused d tail) (λ s. s ≡ stand_of rule bytes)

  -- a feed that refused stays as it was
  pub refused-stays : (refused : Option DrnError) (xs ys : List ℕ) → is_some refused ≡ true → Stood refused xs → Stood refused (xs ++ ys)
  refused-stays None xs ys some at = absurd cc
  refused-stays (Some error.Memory) xs ys some at = tt
  refused-stays (Some (error.At line kind)) xs ys some at = keeps rule xs ys (record { kind = kind; line = line }) at

  pub long-tail : (refused : Option DrnError) (xs ys : List ℕ) (line : ℕ) → is_some refused ≡ false → Stood refused xs → All (λ b. is_line_feed b ≡ false) ys
      → length tail ≤ 65536 → 65536 - length tail < length ys → line ≡ named (d.lines + 1) → Refusing (record { kind = LongLine; line = line }) ≡ stand_of rule (xs ++ ys)
  long-tail (Some e) xs ys line none at plain fits lt is = absurd cc
  long-tail None xs ys line none at plain fits lt is =
      let test : ltb longest_line (length (tail ++ ys)) ≡ true = (let l : longest_line < length (tail ++ ys) = omega (arith, length-append tail ys) in grind (arith, nat_tests)) in
      ap (λ (n : ℕ). Refusing (record { kind = LongLine; line = n })) is
      ∙ sym (stand-tail rule xs ys d tail plain at ∙ ap (λ (b : Bool). cond b (Refusing (record { kind = LongLine; line = named (d.lines + 1) })) (Reading d (tail ++ ys))) test)

  pub more-tail : (refused : Option DrnError) (xs ys now : List ℕ) → is_some refused ≡ false → Stood refused xs → All (λ b. is_line_feed b ≡ false) ys
      → length tail ≤ 65536 → length ys ≤ 65536 - length tail → now ≡ tail ++ ys → IfSome (stand_with refused d now) (λ s. s ≡ stand_of rule (xs ++ ys))
  more-tail (Some e) xs ys now none at plain fits le is = absurd cc
  more-tail None xs ys now none at plain fits le is =
      let test : ltb longest_line (length (tail ++ ys)) ≡ false = (let l : length (tail ++ ys) ≤ longest_line = omega (arith, length-append tail ys) in grind (arith, nat_tests)) in
      ap (λ (o : List ℕ). Reading d o) is
      ∙ sym (stand-tail rule xs ys d tail plain at ∙ ap (λ (b : Bool). cond b (Refusing (record { kind = LongLine; line = named (d.lines + 1) })) (Reading d (tail ++ ys))) test)

  -- the line was taken
  pub line-taken : (refused : Option DrnError) (xs : List ℕ) (e : Document) → is_some refused ≡ false → Stood refused xs
      → at_line rule d tail ≡ Ok e → IfSome (stand_with refused e []) (λ s. s ≡ stand_of rule (xs ++ 10 ∷ []))
  line-taken (Some e) xs f none at said = absurd cc
  line-taken None xs e none at said = sym (stand-closed rule xs d tail at ∙ ap (λ (r : Result Document Refusal). stand_from r []) said)

  -- the line was refused
  pub line-refused : (refused : Option DrnError) (xs : List ℕ) (e : DrnError) (after : Document) (now : List ℕ) → is_some refused ≡ false
      → Stood refused xs → Fails e (at_line rule d tail) → IfSome (stand_with (Some e) after now) (λ s. s ≡ stand_of rule (xs ++ 10 ∷ []))
  line-refused (Some f) xs e after now none at said = absurd cc
  line-refused None xs error.Memory after now none at said = tt
  line-refused None xs (error.At line kind) after now none at said = sym (stand-closed rule xs d tail at ∙ ap (λ (r : Result Document Refusal). stand_from r []) said)

  -- a whole line, where no bytes of it came before
  pub whole-taken : (refused : Option DrnError) (xs ys : List ℕ) (e : Document) → is_some refused ≡ false → Stood refused xs → All (λ b. is_line_feed b ≡ false) ys
      → tail ≡ [] → at_line rule d ys ≡ Ok e → IfSome (stand_with refused e tail) (λ s. s ≡ stand_of rule (xs ++ (ys ++ 10 ∷ [])))
  whole-taken (Some f) xs ys e none at plain empty said = absurd cc
  whole-taken None xs ys e none at plain empty said =
      ap (Reading e) empty
      ∙ sym (stand-whole rule xs ys d plain (ap (Reading d) (sym empty) ∙ at) ∙ ap (λ (r : Result Document Refusal). stand_from r []) said)

  pub whole-refused : (refused : Option DrnError) (xs ys : List ℕ) (e : DrnError) (after : Document) (now : List ℕ) → is_some refused ≡ false → Stood refused xs
      → All (λ b. is_line_feed b ≡ false) ys → tail ≡ [] → Fails e (at_line rule d ys) → IfSome (stand_with (Some e) after now) (λ s. s ≡ stand_of rule (xs ++ (ys ++ 10 ∷ [])))
  whole-refused (Some f) xs ys e after now none at plain empty said = absurd cc
  whole-refused None xs ys error.Memory after now none at plain empty said = tt
  whole-refused None xs ys (error.At line kind) after now none at plain empty said =
      sym (stand-whole rule xs ys d plain (ap (Reading d) (sym empty) ∙ at) ∙ ap (λ (r : Result Document Refusal). stand_from r []) said)

  -- ---- the end

  pub end-refused : (refused : Option DrnError) (xs : List ℕ) (e : DrnError) → refused ≡ Some e → Stood refused xs → Fails e (outcome rule xs)
  end-refused refused xs e is at = by e (subst (λ (r : Option DrnError). Stood r xs) is at)
    where
      by : (f : DrnError) → IfSome (stand_with (Some f) d tail) (λ s. s ≡ stand_of rule xs) → Fails f (outcome rule xs)
      by error.Memory h = tt
      by (error.At line kind) h = end-refusing rule xs (record { kind = kind; line = line }) h

  pub end-standing : (refused : Option DrnError) (xs : List ℕ) → refused ≡ None → Stood refused xs → outcome rule xs ≡ ended rule d tail
  end-standing refused xs none at = end-reading rule xs d tail (subst (λ (r : Option DrnError). Stood r xs) none at)

pub fails_then : (r : Result Document Refusal) (e : DrnError) → Fails e r → Fails e (r >>= at_end)
fails_then r error.Memory said = tt
fails_then r (error.At line kind) said = ap (λ (x : Result Document Refusal). x >>= at_end) said
