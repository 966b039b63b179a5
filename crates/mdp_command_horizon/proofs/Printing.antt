-- A text that is due is that of best values.
use Rattle.std.proofs.Common.{◌≡◌, ℕ, ◌*◌, ◌<◌, Bool, true, false, if◌then◌else◌, nat_lt, List, length, Option, Some, None, Result, Ok, Err, refl, sym}
use Rattle.mdp_math.specs.Result.{◌>>=◌}
use Rattle.mdp_spec.specs.{Labels.{place_of}, Mdp.{Mdp, states_of}, Row.{IsMdp}}
use Rattle.mdp_rows.specs.{declared.dir.Dir.{Dir}, declared.dir.Dir.TheVariants.{Max, Min}}
use Rattle.mdp_check.proofs.Accepting.{below_names}
use Rattle.mdp_horizon.specs.{Laws.{AnswersAreGreatest, AnswersAreLeast, TotalsAreGreatest, TotalsAreLeast}, Spelling.{until_text, total_text}}
use Rattle.mdp_horizon.specs.Written.{Place, Answer, written_until, written_total}
use Rattle.mdp_horizon.proofs.Turns.{ok_part}
use Rattle.mdp_job.specs.Refusal.{query_steps}
use Rattle.mdp_command.specs.Said.{Said}
use Rattle.mdp_command_horizon.specs.Due.{most_choices, said_of_end, said_within, states_with, states_that_stay, stay_word, said_of_marks, IsHorizonDue, name_at, said_of_name, IsTotalDue}
use Rattle.mdp_command_horizon.specs.Printed.{IsBest, IsHorizonPrinted, IsBestTotal, IsTotalPrinted}

-- ---- what is due

-- a text is that of an answer
text_by : (f : Answer → List ℕ) (end : Result Answer Place) (text : List ℕ) → said_of_end f end ≡ Ok text → (a : Answer) × (end ≡ Ok a) × (text ≡ f a)
text_by f (Ok a) text e = (a, refl, (let same : f a ≡ text = cc e in sym same))
text_by f (Err p) text e = cc e

pub not_long : (long : Bool) (said : Said) (text : List ℕ) → (if long then Err query_steps else said) ≡ Ok text → said ≡ Ok text
not_long true said text e = cc e
not_long false said text e = e

-- what is said of a name is said of its place
pub place_part : (place : Option ℕ) (f : ℕ → Said) (text : List ℕ) → name_at place >>= f ≡ Ok text → (r : ℕ) × (place ≡ Some r) × (f r ≡ Ok text)
place_part None f text e = cc e
place_part (Some r) f text e = (r, refl, e)

text_within : (steps : ℕ) (m : Mdp) (f : Answer → List ℕ) (end : Result Answer Place) (text : List ℕ) → said_within steps m f end ≡ Ok text → (a : Answer) × (end ≡ Ok a) × (text ≡ f a)
text_within steps m f end text e = text_by f end text (not_long (nat_lt most_choices (steps * states_of m)) (said_of_end f end) text e)

-- ---- a bounded until

module _ (greatest : AnswersAreGreatest) (least : AnswersAreLeast) (stay : Option (List ℕ)) (label : List ℕ) (steps : ℕ) (m : Mdp) (mdp : IsMdp m) (text : List ℕ) where
  best_of : (dir : Dir) (stays goals : List Bool) (a : Answer) → written_until dir m stays goals steps ≡ Ok a → IsBest dir m stays goals steps a
  best_of Max stays goals a made = greatest m stays goals steps a mdp made
  best_of Min stays goals a made = least m stays goals steps a mdp made

  pub printed_of_due : (dir : Dir) → IsHorizonDue dir stay label steps m (Ok text) → IsHorizonPrinted dir stay label steps m text
  printed_of_due dir due =
      let a = ok_part (states_that_stay m stay) (λ stays. states_with m label >>= (λ goals. said_of_marks dir stay label steps m stays goals)) text (sym due) in
      let b = ok_part (states_with m label) (λ goals. said_of_marks dir stay label steps m a.0 goals) text a.2 in
      let c = text_within steps m (until_text dir (stay_word stay) label m) (written_until dir m a.0 b.0 steps) text b.2 in
      record { stays = a.0; stays_are = a.1; goals = b.0; goals_are = b.1; answer = c.0; spelled = c.2; computed = c.1; best = best_of dir a.0 b.0 c.0 c.1 }

-- ---- the total reward of a name

module _ (greatest : TotalsAreGreatest) (least : TotalsAreLeast) (name : List ℕ) (steps : ℕ) (m : Mdp) (mdp : IsMdp m) (text : List ℕ) where
  best_total_of : (dir : Dir) (r : ℕ) (a : Answer) → r < length m.names → written_total dir m r steps ≡ Ok a → IsBestTotal dir m r steps a
  best_total_of Max r a named made = greatest m r steps a mdp named made
  best_total_of Min r a named made = least m r steps a mdp named made

  pub printed_of_total_due : (dir : Dir) → IsTotalDue dir name steps m (Ok text) → IsTotalPrinted dir name steps m text
  printed_of_total_due dir due =
      let r = place_part (place_of name m.names) (said_of_name dir name steps m) text (sym due) in
      let c = text_within steps m (total_text dir name m) (written_total dir m r.0 steps) text r.2 in
      record { place = r.0; place_is = r.1; answer = c.0; spelled = c.2; computed = c.1; best = best_total_of dir r.0 c.0 (below_names name m.names r.0 r.1) c.1 }
