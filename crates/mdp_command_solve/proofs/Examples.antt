-- The certificate of a mean payoff and its text, that of an until, and what is due to names that aren't there, computed on `gamble`: state 0, with the label `init`, stays
-- for 1 in each step, or moves to 1, which earns 4 in each step, or to 2, which earns nothing, with 1/2 each.
use Rattle.std.proofs.Common.{◌≡◌, List, [], ◌∷◌, ◌++◌, Some, None, Ok, Err, refl, pos}
use Rattle.std.specs.{Prelude.{codes}, Fmt.{digits}}
use Rattle.mdp_math.specs.{Gcd.{gcd, gcd_with_fuel}, Rational.{ℚ, of_int, ratio, neg_ℚ}}
use Rattle.mdp_num.specs.Value.{spelling}
use Rattle.mdp_spec.specs.Mdp.{Entry, Choice, Mdp}
use Rattle.mdp_spec.proofs.Small.{entry, number}
use Rattle.mdp_rows.specs.declared.dir.Dir.TheVariants.{Max, Min}
use Rattle.mdp_wide.specs.declared.too_wide.Part.TheVariants as part
use Rattle.mdp_wide.specs.{declared.too_wide.Kind.TheVariants.{Check}, Term.{WideTerm}}
use Rattle.mdp_reach.specs.Query.{Answer}
use Rattle.mdp_mean.specs.Query as averaged
use Rattle.mdp_cert.specs.{Runs.{longest_runs}, Spelling.{run_text, run_lines, text_in}}
use Rattle.mdp_text.specs.{Spelling.{line}, declared.init.Init.TheVariants.{Missing}}
use Rattle.mdp_job.specs.{Job.{until, mean}, Refusal.{query_reward, query_label, too_wide}}
use Rattle.mdp_command.specs.Said.{Said}
use Rattle.mdp_command_solve.specs.{Ways.{place_on_way}, Due.{said_of_end, mean_certificate_of, said_of_mean_end, IsQueryDue}}

abbrev choice : ℚ → List Entry → Choice
choice reward row = record { row = row; rewards = reward ∷ [] }

abbrev gamble : Mdp
gamble = record {
  names = codes "-" ∷ [];
  labels = codes "init" ∷ [];
  states =
      record { labels = 0 ∷ []; choices = choice (number 1) (entry 0 (number 1) ∷ []) ∷ choice (number 0) (entry 1 (ratio (pos 1) 2) ∷ entry 2 (ratio (pos 1) 2) ∷ []) ∷ [] }
      ∷ record { labels = []; choices = choice (number 4) (entry 1 (number 1) ∷ []) ∷ [] }
      ∷ record { labels = []; choices = choice (number 0) (entry 2 (number 1) ∷ []) ∷ [] }
      ∷ [];
}

-- to gamble earns 2 in the mean, 2 less than that once
abbrev gambles : averaged.Answer
gambles = record {
  gains = number 2 ∷ number 4 ∷ number 0 ∷ [];
  bound = number 0 ∷ number 0 ∷ number 0 ∷ [];
  bias = neg_ℚ (number 2) ∷ number 0 ∷ number 0 ∷ [];
  choices = 1 ∷ 0 ∷ 0 ∷ [];
  spread = number 2;
}

gambles_printed :
    said_of_mean_end Max (codes "-") gamble (Ok gambles)
    ≡ (let text : Said = Ok (line (codes "mdp-certificate 2") ++ (line (codes "claim max mean \"-\"") ++ (line (codes "states 3") ++ line (codes "init 0 2"))
    ++ (line (codes "spread 2")
    ++ (line (codes "state 0 2 0 -2 1") ++ line (codes "state 1 4 0 0 0") ++ line (codes "state 2 0 0 0 0") ++ line (codes "end"))))) in text)
unfolding text_in run_text run_lines longest_runs spelling of_int neg_ℚ ratio gcd gcd_with_fuel digits
gambles_printed = refl

-- where no state has the label `init` the line `init` has no value
without_start : (mean_certificate_of Max (codes "-") (record gamble { labels = codes "goal" ∷ [] }) gambles).init ≡ Missing
without_start = refl

-- a term past width in the check is said with its place, in round 0 of the join
abbrev wide : WideTerm
wide = record { part = part.Join; number = 0; policy = 1 ∷ 0 ∷ 0 ∷ []; kind = Check; state = None; choice = None }

wide_said : said_of_mean_end Min (codes "-") gamble (Err wide) ≡ (let refused : Said = Err (too_wide wide) in refused)
wide_said = refl

-- a name that the model hasn't is refused as a reward, and as nothing else
unknown_name : IsQueryDue Max (mean (codes "cost")) gamble (Err query_reward)
unknown_name = refl

no_unknown_label : IsQueryDue Max (mean (codes "cost")) gamble (Err query_label) → ⊥
no_unknown_label h = cc

-- ---- until

-- the same steps, of which the one to 1 comes to the label `won`; by way of states with the label `init` alone its probability from state 0 is 1/2
abbrev won : Mdp
won = record {
  names = codes "-" ∷ [];
  labels = codes "init" ∷ codes "won" ∷ [];
  states =
      record { labels = 0 ∷ []; choices = choice (number 0) (entry 0 (number 1) ∷ []) ∷ choice (number 0) (entry 1 (ratio (pos 1) 2) ∷ entry 2 (ratio (pos 1) 2) ∷ []) ∷ [] }
      ∷ record { labels = 1 ∷ []; choices = choice (number 0) (entry 1 (number 1) ∷ []) ∷ [] }
      ∷ record { labels = []; choices = choice (number 0) (entry 2 (number 1) ∷ []) ∷ [] }
      ∷ [];
}

abbrev wins : Answer
wins = record { values = ratio (pos 1) 2 ∷ number 1 ∷ number 0 ∷ []; choices = 1 ∷ 0 ∷ 0 ∷ []; ranks = 1 ∷ 0 ∷ 0 ∷ [] }

wins_printed :
    said_of_end Max (Some (codes "init")) (codes "won") won (Ok wins)
    ≡ (let text : Said = Ok (line (codes "mdp-certificate 2") ++ (line (codes "claim max until \"init\" \"won\"") ++ (line (codes "states 3") ++ line (codes "init 0 1/2"))
    ++ (line (codes "state 0 1/2 1 1") ++ line (codes "state 1 1 0 0") ++ line (codes "state 2 0 0 0") ++ line (codes "end")))) in text)
unfolding text_in run_text run_lines longest_runs spelling of_int neg_ℚ ratio gcd gcd_with_fuel digits
wins_printed = refl

-- without the label of the states on the way it is the claim of reaching the label
wins_reach :
    said_of_end Max None (codes "won") won (Ok wins)
    ≡ (let text : Said = Ok (line (codes "mdp-certificate 2") ++ (line (codes "claim max reach \"won\"") ++ (line (codes "states 3") ++ line (codes "init 0 1/2"))
    ++ (line (codes "state 0 1/2 1 1") ++ line (codes "state 1 1 0 0") ++ line (codes "state 2 0 0 0") ++ line (codes "end")))) in text)
unfolding text_in run_text run_lines longest_runs spelling of_int neg_ℚ ratio gcd gcd_with_fuel digits
wins_reach = refl

-- both labels are looked up, and each that isn't there is refused
found_both : place_on_way won (Some (codes "init")) (codes "won") ≡ Some 1
found_both = refl

unknown_way : IsQueryDue Max (until (codes "lost") (codes "won")) won (Err query_label)
unknown_way = refl

unknown_goal : IsQueryDue Min (until (codes "init") (codes "lost")) won (Err query_label)
unknown_goal = refl

no_unknown_reward : IsQueryDue Max (until (codes "lost") (codes "won")) won (Err query_reward) → ⊥
no_unknown_reward h = cc

-- the word `-` is a label's name here
unknown_dash : IsQueryDue Max (until (codes "-") (codes "won")) won (Err query_label)
unknown_dash = refl
