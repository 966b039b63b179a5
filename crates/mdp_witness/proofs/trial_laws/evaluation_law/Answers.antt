use Rattle.mdp_witness.proofs.Values.{visits_are, value-is}
use Rattle.mdp_witness.proofs.trial_laws.evaluation_law.Goals as goal

pub returns : goal.returns
returns c = record {
  visits = λ m goals policy ranks start set v known taking size leaves inside is. record {
    visits = visits_are m goals policy ranks start set known taking size leaves inside v is;
    value = value-is m goals policy ranks start set known taking size leaves inside v is;
  };
}
