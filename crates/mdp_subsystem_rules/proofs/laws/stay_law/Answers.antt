use Rattle.mdp_spec.proofs.Until.{until_is_reach, reach_is_until, until_by_sub, sub_by_until, until_lies, until_is_unique, one_subsystem, until_is_hit_kept}
use Rattle.mdp_subsystem_rules.proofs.Untils.{sub_until_max, sub_until_within, sub_until_min}
use Rattle.mdp_subsystem_rules.proofs.laws.stay_law.Goals as goal

pub returns : goal.returns
returns c = record {
  there = until_is_reach;
  back = reach_is_until;
  by_sub = until_by_sub;
  to_sub = sub_by_until;
  lies = until_lies;
  one = until_is_unique;
  one_sub = one_subsystem;
  kept = until_is_hit_kept;
  sub_max = sub_until_max;
  within = sub_until_within;
  sub_min = sub_until_min;
}
