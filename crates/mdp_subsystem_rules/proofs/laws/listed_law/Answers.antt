use Rattle.mdp_subsystem_rules.proofs.Listed.{kept_marks-listed, listed_flow_shape, listed_floor_shape, listed_meets_floor}
use Rattle.mdp_subsystem_rules.proofs.laws.listed_law.Goals as goal

pub returns-clause-marks : goal.returns-clause-marks
returns-clause-marks c = λ n marks e. kept_marks-listed n marks e

pub returns-clause-flow_shape : goal.returns-clause-flow_shape
returns-clause-flow_shape c = λ m kept wide policy y. listed_flow_shape m policy y kept wide

pub returns-clause-floor_shape : goal.returns-clause-floor_shape
returns-clause-floor_shape c = λ m kept wide z ranks. listed_floor_shape m kept wide z ranks

pub returns-clause-floor : goal.returns-clause-floor
returns-clause-floor c = λ m goals kept z ranks start threshold each r. listed_meets_floor m goals kept z ranks each start threshold r
