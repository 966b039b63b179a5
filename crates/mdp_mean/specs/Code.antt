-- What is joined, as the code holds it.
use Rattle.mdp_mean.specs.Terms as spec
use Rattle.mdp_mean.specs.{declared.joining.Joining.{Joining}, declared.join.JoinedValues.{JoinedValues}}
use Rattle.mdp_mean.specs.Join as joined

abbrev pub joining_in : Joining → spec.Joining
joining_in j = record {
  dir = j.dir;
  model = j.model.now;
  name = j.name;
  parts = j.ends.now.parts;
  policy = j.policy.now;
  active = j.active.now;
  gains = j.gains.now;
  steps = j.steps.now;
  inner = j.inner.now;
}

abbrev pub shown : JoinedValues → joined.Joined
shown j = record { bound = j.bound.items; bias = j.bias.items; spread = j.spread }
