-- Where a feed stands that has been given a text in pieces.
use Rattle.std.specs.Prelude.{◌≡◌, ℕ, ◌+◌, List, length, Option, Some, None, Result, Ok, Err, nat_lt, if◌then◌else◌, IfSome}
use Rattle.mdp_drn.specs.{declared.error.DrnKind.TheVariants.{LongLine}, declared.error.DrnError.{DrnError}, Lines.{whole_lines, open_line}, Outcome.{Refusal}}
use Rattle.mdp_drn.specs.Reading.{Document, nothing_read, named, longest_line, after_lines}
use Rattle.mdp_drn.specs.declared.error.DrnError.TheVariants as error
use Rattle.mdp_rows.specs.declared.rule.RowRule.{RowRule}

-- it refuses, or it has the document of the lines that have their line feed and the bytes behind the last one
pub data Stand : Type 0 where
  Refusing : Refusal → Stand
  Reading : Document → List ℕ → Stand

-- an open line that is too long is refused before its line feed comes
abbrev pub stand_at : Document → List ℕ → Stand
stand_at document tail = if nat_lt longest_line (length tail) then Refusing (record { kind = LongLine; line = named (document.lines + 1) }) else Reading document tail

abbrev pub stand_from : Result Document Refusal → List ℕ → Stand
stand_from (Ok document) tail = stand_at document tail
stand_from (Err refusal) tail = Refusing refusal

-- where a text so far leaves a feed
abbrev pub stand_of : RowRule → List ℕ → Stand
stand_of rule bytes = stand_from (after_lines rule nothing_read (whole_lines bytes)) (open_line bytes)

-- a feed: its rule, and where it stands, or nothing where memory ran out
pub record Held : Type 0 where
  pub rule : RowRule
  pub stand : Option Stand

-- the feed has been given these bytes
abbrev pub HasRead : Held → List ℕ → Type 0
HasRead held bytes = IfSome held.stand (λ s. s ≡ stand_of held.rule bytes)

-- what it answers there
abbrev pub answer : Option Stand → Result (Unit {0}) DrnError
answer None = Err error.Memory
answer (Some (Refusing refusal)) = Err (error.At refusal.line refusal.kind)
answer (Some (Reading document tail)) = Ok tt

abbrev pub stand_with : Option DrnError → Document → List ℕ → Option Stand
stand_with None document tail = Some (Reading document tail)
stand_with (Some error.Memory) document tail = None
stand_with (Some (error.At line kind)) document tail = Some (Refusing (record { kind = kind; line = line }))

-- What a call answered is what the definition says, unless memory ran out.
abbrev pub Fails : {Y : Type 0} → DrnError → Result Y Refusal → Type 0
Fails error.Memory said = Unit {0}
Fails (error.At line kind) said = said ≡ Err (record { kind = kind; line = line })

abbrev pub Gives : {X Y : Type 0} → (X → Y → Type 0) → Result X DrnError → Result Y Refusal → Type 0
Gives {X} {Y} P (Ok x) said = (y : Y) × (said ≡ Ok y) × P x y
Gives P (Err e) said = Fails e said

-- a feed that refused answers that refusal again, and one that ran out of memory answers that again
abbrev pub Repeats : {X : Type 0} → Option Stand → Result X DrnError → Type 0
Repeats None result = result ≡ Err error.Memory
Repeats (Some (Refusing refusal)) result = result ≡ Err (error.At refusal.line refusal.kind)
Repeats (Some (Reading document tail)) result = Unit {0}

-- a feed that refused, or ran out of memory, stays where it is
abbrev pub Stays : Option Stand → Option Stand → Type 0
Stays None new = new ≡ None
Stays (Some (Refusing refusal)) new = new ≡ Some (Refusing refusal)
Stays (Some (Reading document tail)) new = Unit {0}

-- the same, where Ok alone is answered and the value is another's
abbrev pub Answers : {X Y : Type 0} → Result X DrnError → Y → Result Y Refusal → Type 0
Answers (Ok x) y said = said ≡ Ok y
Answers (Err e) y said = Fails e said
