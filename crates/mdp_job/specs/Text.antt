-- The text of each refusal: one line, but for a term past width in what was to be solved, which has two.
use Rattle.std.specs.{Prelude.{ℕ, List, [], ◌∷◌, ◌++◌, Option, Some, None, decimal, codes}, List.{flat_map}}
use Rattle.mdp_math.specs.Rational.{ℚ}
use Rattle.mdp_num.specs.Value.{spelling}
use Rattle.mdp_text.specs.Kinds.{cert_word}
use Rattle.mdp_drn.specs.Kinds.{drn_word}
use Rattle.mdp_wide.specs.{declared.too_wide.Kind.{Kind}, declared.too_wide.Kind.TheVariants.{Evaluate, Compare, Check}, declared.too_wide.Part.{Part}}
use Rattle.mdp_wide.specs.{declared.too_wide.Part.TheVariants.{Whole, Inner, Outer, Steps, Join, Flow, Floor}, Term.{WideTerm}}
use Rattle.mdp_claims.specs.{RuleNumber.{number_of}, declared.rule.Rule.{Rule}, declared.verdict.Fault.{Fault}}
use Rattle.mdp_job.specs.Refusal.{PlainRefusal, no_job, model_text, query_size, query_reward, query_label, query_init, query_negative, query_steps, query_choice, too_wide, check_wide, horizon_wide}
use Rattle.mdp_job.specs.Refusal.{denied, read_model, read_certificate, long_model, long_certificate, cert_text, policy_text, below, undecided, no_memory}
use Rattle.mdp_job.specs.declared.words_error.WordsError.{WordsError}
use Rattle.mdp_job.specs.declared.words_error.WordsError.TheVariants as words

abbrev pub line : List ℕ → List ℕ
line text = text ++ 10 ∷ []

abbrev pub words_word : WordsError → List ℕ
words_word words.Command = codes "command"
words_word words.Number = codes "number"
words_word words.Rows = codes "rows"
words_word words.Direction = codes "direction"
words_word words.Objective = codes "objective"
words_word words.Threshold = codes "threshold"
words_word words.Drill = codes "drill"
words_word words.Steps = codes "steps"
words_word words.Factor = codes "factor"
words_word words.Digits = codes "digits"
words_word words.Encoding = codes "encoding"

-- a number, or `-`
abbrev pub number_or_dash : Option ℕ → List ℕ
number_or_dash None = codes "-"
number_or_dash (Some n) = decimal n

abbrev pub place_text : Option ℕ → Option ℕ → List ℕ
place_text state choice = codes " state " ++ number_or_dash state ++ codes " choice " ++ number_or_dash choice ++ 10 ∷ []

-- which text is refused, at which line, and why
abbrev pub at_line : List ℕ → ℕ → List ℕ → List ℕ
at_line what n why = what ++ codes " line " ++ decimal n ++ 32 ∷ why ++ 10 ∷ []

abbrev pub rule_text : Rule → List ℕ
rule_text rule = codes "denied rule " ++ decimal (number_of rule)

abbrev pub denied_text : Fault → List ℕ
denied_text f = rule_text f.rule ++ place_text f.state f.choice

abbrev pub wide_text : Option ℕ → Option ℕ → List ℕ
wide_text state choice = codes "too-wide check" ++ place_text state choice

-- the best probability, or an upper value of it, where it is below the threshold
abbrev pub below_text : ℚ → List ℕ
below_text v = codes "below " ++ spelling v ++ 10 ∷ []

-- a lower and an upper value of it, where the threshold lies between them
abbrev pub undecided_text : ℚ → ℚ → List ℕ
undecided_text low high = codes "undecided " ++ spelling low ++ 32 ∷ spelling high ++ 10 ∷ []

-- a sum that is past width, with so many steps left
abbrev pub depth_text : ℕ → List ℕ
depth_text depth = codes "too-wide horizon depth " ++ decimal depth

abbrev pub horizon_text : ℕ → ℕ → ℕ → List ℕ
horizon_text depth state choice = depth_text depth ++ place_text (Some state) (Some choice)

-- ---- a term past width in what was to be solved

abbrev pub part_word : Part → List ℕ
part_word Whole = codes "whole"
part_word (Inner i) = codes "inner-" ++ decimal i
part_word Outer = codes "outer"
part_word Steps = codes "steps"
part_word Join = codes "join"
part_word Flow = codes "flow"
part_word Floor = codes "floor"

abbrev pub kind_word : Kind → List ℕ
kind_word Evaluate = codes "evaluate"
kind_word Compare = codes "compare"
kind_word Check = codes "check"

-- each choice of a policy behind one blank
abbrev pub policy_words : List ℕ → List ℕ
policy_words policy = flat_map (λ c. 32 ∷ decimal c) policy

-- where it is, and in a second line the policy of that round
abbrev pub too_wide_text : WideTerm → List ℕ
too_wide_text w =
    codes "too-wide part " ++ part_word w.part ++ codes " round " ++ decimal w.number ++ codes " kind " ++ kind_word w.kind ++ place_text w.state w.choice
    ++ codes "policy" ++ policy_words w.policy ++ 10 ∷ []

abbrev pub text_of : PlainRefusal → List ℕ
text_of (no_job e) = line (codes "words " ++ words_word e)
text_of (model_text n kind) = at_line (codes "model") n (drn_word kind)
text_of query_size = line (codes "query size")
text_of query_reward = line (codes "query reward")
text_of query_label = line (codes "query label")
text_of query_init = line (codes "query init")
text_of query_negative = line (codes "query negative")
text_of query_steps = line (codes "query steps")
text_of query_choice = line (codes "query choice")
text_of (too_wide w) = too_wide_text w
text_of (check_wide state choice) = wide_text state choice
text_of (horizon_wide depth state choice) = horizon_text depth state choice
text_of (denied f) = denied_text f
text_of read_model = line (codes "read-fault model")
text_of read_certificate = line (codes "read-fault certificate")
text_of long_model = line (codes "long model")
text_of long_certificate = line (codes "long certificate")
text_of (cert_text n kind) = at_line (codes "cert") n (cert_word kind)
text_of (policy_text n kind) = at_line (codes "policy") n (cert_word kind)
text_of (below v) = below_text v
text_of (undecided low high) = undecided_text low high
text_of no_memory = line (codes "memory")
