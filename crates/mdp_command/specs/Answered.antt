-- What is said of an answer of a checker.
use Rattle.std.specs.Prelude.{ℕ, List, Ok, Err, codes}
use Rattle.mdp_check.specs.{declared.answer.Answer.{Answer}, declared.answer.Answer.TheVariants.{Yes, No, Wide, NoReward, NoLabel, Size, Memory}}
use Rattle.mdp_job.specs.{Refusal.{query_size, query_reward, query_label, check_wide, denied, no_memory}, Text.{line}}
use Rattle.mdp_command.specs.Said.{Said}

abbrev pub yes_text : List ℕ
yes_text = line (codes "yes")

abbrev pub said_of : Answer → Said
said_of Yes = Ok yes_text
said_of (No fault) = Err (denied fault)
said_of (Wide state choice) = Err (check_wide state choice)
said_of NoReward = Err query_reward
said_of NoLabel = Err query_label
said_of Size = Err query_size
said_of Memory = Err no_memory
