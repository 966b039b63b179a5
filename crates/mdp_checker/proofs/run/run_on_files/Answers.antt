use Rattle.mdp_checker.proofs.run.run_on_files.Goals as goal

pub returns : goal.returns
returns g c = record {
  model = c.open_model-model.result;
  model_after = c.run.new.model;
  second = c.open_cert-cert.result;
  second_after = c.run.new.cert;
  opened_model = (_, c.open_model-model.ensures, c.paths_of-paths.ensures.model);
  opened_second = (_, c.open_cert-cert.ensures, c.paths_of-paths.ensures.cert);
  run = record { answer = c.run.ensures.answer; done = c.run.ensures.done; done_of_text = c.run.ensures.done_of_text; complete = c.run.ensures.complete };
}
