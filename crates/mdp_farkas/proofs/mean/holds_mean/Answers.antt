use Rattle.std.proofs.Common.{ℕ, List, ap, ◌∙◌}
use Rattle.mdp_math.specs.Rational.{ℚ}
use Rattle.mdp_farkas.specs.{Mean.{mean_checks}, Verdict.{verdict, verdict_of}}
use Rattle.mdp_farkas.proofs.MeanRules.{mean_rules, mean_max, mean_min}
use Rattle.mdp_farkas.proofs.mean.holds_mean.Goals as goal

pub returns : goal.returns
returns c =
    let d = c.args.dir in
    let m = c.args.model.now in
    let r = c.args.m in
    let g = c.args.cert.now.gains.items in
    let a = c.args.cert.now.bound.items in
    let b = c.args.cert.now.bias.items in
    let spread = c.args.cert.now.spread in
    let policy = c.args.cert.now.choices.items in
    let e = c.verdict_after.ensures
    ∙ ap verdict c.walk.ensures
    ∙ ap (λ (g : List ℚ). verdict_of (mean_checks d m r g c.as_slice-2.result.now c.as_slice-3.result.now spread c.as_slice-4.result.now)) c.as_slice.ensures.value
    ∙ ap (λ (a : List ℚ). verdict_of (mean_checks d m r g a c.as_slice-3.result.now spread c.as_slice-4.result.now)) c.as_slice-2.ensures.value
    ∙ ap (λ (b : List ℚ). verdict_of (mean_checks d m r g a b spread c.as_slice-4.result.now)) c.as_slice-3.ensures.value
    ∙ ap (λ (k : List ℕ). verdict_of (mean_checks d m r g a b spread k)) c.as_slice-4.ensures.value in
    record {
      verdict = e;
      rules = mean_rules m r g a b spread policy d c.verdict_after.result c.requires.name c.requires.bound c.requires.bias c.requires.choices e;
      max = mean_max m r g a b spread policy d c.verdict_after.result c.requires.name c.requires.bound c.requires.bias c.requires.choices e c.known.ensures.mdp;
      min = mean_min m r g a b spread policy d c.verdict_after.result c.requires.name c.requires.bound c.requires.bias c.requires.choices e c.known.ensures.mdp;
    }
