use Rattle.std.proofs.Common.{ap, ◌∙◌}
use Rattle.mdp_job.specs.{Job.{Asked}, Words.{model_path, second_path}}
use Rattle.mdp_app.proofs.run.run_on_files.Goals as goal

pub returns : goal.returns
returns g c = record {
  model = c.open_model-model.result;
  model_after = c.run.new.model;
  second = c.open_second-second.result;
  second_after = c.run.new.second;
  opened_model = (_, c.open_model-model.ensures, c.paths_of-paths.ensures.model ∙ ap (λ (asked : Asked). model_path asked c.args.words.now) c.job_of.ensures);
  opened_second = (_, c.open_second-second.ensures, c.paths_of-paths.ensures.second ∙ ap (λ (asked : Asked). second_path asked c.args.words.now) c.job_of.ensures);
  run = record { answer = c.run.ensures.answer; done = c.run.ensures.done; complete = c.run.ensures.complete };
}
