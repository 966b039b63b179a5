-- How long the lines are with which a text begins.
use Rattle.std.proofs.{Common.{◌≡◌, ℕ, ◌+◌, List, ◌++◌, length, arith}, lemmas.List.{length-append}}
use Rattle.mdp_text.specs.Spelling.{line}
use Rattle.mdp_text.proofs.Lengths.{line_length}

-- each line has one byte more than its text
pub line_then : (text rest : List ℕ) → length (line text ++ rest) ≡ length text + 1 + length rest
line_then text rest = let a = length-append (line text) rest in let b = line_length text in omega (arith, a, b)

pub five_lines : (version claim states init remainder : List ℕ) → length (line version ++ (line claim ++ (line states ++ (line init ++ line remainder))))
    ≡ length version + length claim + length states + length init + length remainder + 5
five_lines version claim states init remainder =
    let a = line_then version (line claim ++ (line states ++ (line init ++ line remainder))) in
    let b = line_then claim (line states ++ (line init ++ line remainder)) in
    let c = line_then states (line init ++ line remainder) in
    let d = line_then init (line remainder) in
    let e = line_length remainder in
    omega (arith, a, b, c, d, e)
