-- What is shown of a solved query: its answer has an entry per state, and its certificate belongs to the model.
use Rattle.std.proofs.Common.{◌≡◌, ℕ, ◌<◌, ◌≤◌, ◌⊎◌, inl, inr, Bool, true, false, cond, ◌&&◌, not, eqb, nat_lt, List, length, Option, Some, None}
use Rattle.std.proofs.{Common.{Result, Ok, Err, IfOk, refl, sym, ap, ap₂, subst, ◌∙◌, arith, eq-eqb, lt-ltb}, Math.ListN.{replicate}}
use Rattle.std.proofs.lemmas.List.FromFn.{length-map-range_with_len}
use Rattle.std.specs.Prelude.{option_map}
use Rattle.mdp_math.specs.Rational.{ℚ}
use Rattle.mdp_num.specs.OrderView.{equal_decides}
use Rattle.mdp_spec.specs.{Bounds.{reward_at}, Labels.{place_of, marks_of, initial_of}, Mdp.{Mdp, states_of, value_at}, Row.{IsMdp}}
use Rattle.mdp_rows.specs.{declared.dir.Dir.{Dir}, declared.dir.Dir.TheVariants.{Max, Min}}
use Rattle.mdp_policy_iteration.specs.Path.{Found, Refusal}
use Rattle.mdp_farkas.specs.{Reach.{IsReach}, Reward.{MeetsReward, IsReward, reward_checks}, Mean.{MeetsMean, IsMean}}
use Rattle.mdp_farkas.specs.{Verdict.{verdict_of}, Initial.{init_fault}}
use Rattle.mdp_claims.specs.{declared.verdict.Verdict.{Verdict}, declared.verdict.Verdict.TheVariants.{Yes, No, Wide}}
use Rattle.mdp_reach.specs.Query.{Answer, HasOneEach, EndsSo}
use Rattle.mdp_reward.specs.Query as rewarded
use Rattle.mdp_mean.specs.Query as averaged
use Rattle.mdp_text.specs.{declared.init.Init.{Init}, Heads.{init_of, init_by}}
use Rattle.mdp_cert.specs.Cert as certificate
use Rattle.mdp_cert.specs.{Cert.{PlainClaim, PlainBody, Certificate, may_be_infinite, has_threshold, is_witness, is_init_of, is_body_of, Fits}, Claims.{reward_same}}
use Rattle.mdp_cert.specs.{Reading.{outcome}, Spelling.{text_of}, Laws.{IsReadBack}}
use Rattle.mdp_check.specs.{Initial.{has_value, is_subsystem, init_check}, Check.{labelled_marks, reward_place, way_by, valid_by, IsAccepted}}
use Rattle.mdp_check.proofs.Accepting.{accepted_is_bound}
use Rattle.mdp_job.specs.Refusal.{no_memory}
use Rattle.mdp_command.specs.{Files.{most_bytes}, Said.{Said}}
use Rattle.mdp_command_solve.specs.Ways.{goals_by}
use Rattle.mdp_command_solve.specs.Due.{claim_of, certificate_of, IsReachEnd, reward_certificate_of, mean_certificate_of}
use Rattle.mdp_command_solve.specs.Solved.{IsClaimPrinted, IsReachPrinted, IsRewardPrinted, IsMeanPrinted}
use Rattle.mdp_text.proofs.InitialState.{initial_below}
use Rattle.mdp_command_solve.proofs.{TextLength.{text_short}, OnWay.{way_states, marked}}

-- ---- an answer has an entry per state

-- of the model, where it has one per state of what is left of it
pub one_each : (m : Mdp) (goals : List Bool) (stay : Option (List ℕ)) (a : Answer) → HasOneEach (way_by m goals stay) a → HasOneEach m a
one_each m goals stay a h = let e = way_states m goals stay in record { values = h.values ∙ e; choices = h.choices ∙ e; ranks = h.ranks ∙ e }

-- ---- the sizes of an answer of rewards

split_size : (m : Mdp) (marks : List Bool) (inside outside : List ℕ) → length (rewarded.split m marks inside outside) ≡ states_of m
split_size m marks inside outside = length-map-range_with_len _ 0 (states_of m)

known_size : (m : Mdp) (goals finite : List Bool) (start known ranks : List ℕ) → rewarded.IsMaxStart m goals finite start known → ranks ≡ known → length ranks ≡ states_of m
known_size m goals finite start known ranks is e = ap length e ∙ ap length is.known_is ∙ split_size m finite is.near is.far

reward_ranks_size : (dir : Dir) (m : Mdp) (goals finite : List Bool) (start known cs ranks : List ℕ) → rewarded.IsStart dir m goals finite start known
    → rewarded.AreRanks dir m goals finite known cs ranks → length ranks ≡ states_of m
reward_ranks_size Max m goals finite start known cs ranks is h = known_size m goals finite start known ranks is h
reward_ranks_size Min m goals finite start known cs ranks is h = ap length h.ranks_are ∙ split_size m finite h.along known

held_ranks : (f : Found) (values : List (Option ℚ)) (ranks : List ℕ) (a : rewarded.Answer) (v : Verdict) → rewarded.Held f values ranks v (Ok a) → ranks ≡ a.ranks
held_ranks f values ranks a Yes h = let e : (let b : rewarded.Answer = record { values = values; choices = f.policy; ranks = ranks } in b) ≡ a = cc h in ap (λ (b : rewarded.Answer). b.ranks) e
held_ranks f values ranks a (No fault) h = absurd h
held_ranks f values ranks a (Wide state choice) h = cc h

module _ (dir : Dir) (m : Mdp) (r : ℕ) (goals : List Bool) (a : rewarded.Answer) (end : rewarded.EndsSo dir m r goals (Ok a)) where
  ranks_by : (e : Result Found Refusal) → rewarded.AfterPath dir m r goals end.finite end.known e (Ok a) → length a.ranks ≡ states_of m
  ranks_by (Err w) h = cc h
  ranks_by (Ok f) h =
      let values = rewarded.rewards_of m end.finite f.values in
      ap length (sym (held_ranks f values h.0 a (verdict_of (reward_checks dir m r goals values f.policy h.0)) h.2))
      ∙ reward_ranks_size dir m goals end.finite end.start end.known f.policy h.0 end.is_start h.1

  pub reward_ranks : length a.ranks ≡ states_of m
  reward_ranks = ranks_by end.end end.after

pub reward_values_size : (dir : Dir) (m : Mdp) (r : ℕ) (goals : List Bool) (v : List (Option ℚ)) (cs rs : List ℕ) → MeetsReward dir m r goals v cs rs → length v ≡ states_of m
reward_values_size Max m r goals v cs rs h = h.one_each
reward_values_size Min m r goals v cs rs h = h.one_each

pub reward_choices_size : (dir : Dir) (m : Mdp) (r : ℕ) (goals : List Bool) (v : List (Option ℚ)) (cs rs : List ℕ) → MeetsReward dir m r goals v cs rs → length cs ≡ states_of m
reward_choices_size Max m r goals v cs rs h = h.choices.one_each
reward_choices_size Min m r goals v cs rs h = h.choices.one_each

-- ---- the sizes of an answer of mean payoffs

pub record HasMeanSizes (n : ℕ) (a : averaged.Answer) : Type 0 where
  pub gains : length a.gains ≡ n
  pub bound : length a.bound ≡ n
  pub bias : length a.bias ≡ n
  pub choices : length a.choices ≡ n

pub mean_sizes : (dir : Dir) (m : Mdp) (r : ℕ) (a : averaged.Answer) → length a.gains ≡ states_of m → MeetsMean dir m r a.gains a.bound a.bias a.spread a.choices → HasMeanSizes (states_of m) a
mean_sizes Max m r a gains h = record { gains = gains; bound = h.spreads.bounds; bias = h.spreads.biases; choices = h.choices.one_each }
mean_sizes Min m r a gains h = record { gains = gains; bound = h.spreads.bounds; bias = h.spreads.biases; choices = h.choices.one_each }

-- ---- the certificate

-- the line `init` is right of a body that has these values
init_holds : (i : Option ℕ) (value : ℕ → Option ℚ) (body : PlainBody) → is_subsystem body ≡ false
    → ((s : ℕ) → i ≡ Some s → has_value body s (value s) ≡ true) → init_check (init_by i value) i body ≡ Yes
init_holds None value body plain h = ap (λ (b : Bool). cond b (init_fault None) Yes) plain
init_holds (Some s) value body plain h = by (value s) (h s refl)
  where
    valued : (b : Bool) → b ≡ true → cond (eqb s s && b) Yes (init_fault (Some s)) ≡ Yes
    valued b e = ap₂ (λ (a b : Bool). cond (a && b) Yes (init_fault (Some s))) (eq-eqb s s refl) e

    by : (v : Option ℚ) → has_value body s v ≡ true → init_check (init_of s v) (Some s) body ≡ Yes
    by None e = valued (has_value body s None) e
    by (Some x) e = valued (has_value body s (Some x)) e

reach_valued : (z : List ℚ) (cs rs : List ℕ) (s : ℕ) → s < length z → has_value (certificate.policy z cs rs) s (Some (value_at z s)) ≡ true
reach_valued z cs rs s h = ap₂ (λ (a b : Bool). a && b) (lt-ltb s (length z) h) ((equal_decides (value_at z s) (value_at z s)).1 refl)

same_reward : (v : Option ℚ) → reward_same v v ≡ true
same_reward None = refl
same_reward (Some x) = (equal_decides x x).1 refl

reward_valued : (v : List (Option ℚ)) (cs rs : List ℕ) (s : ℕ) → s < length v → has_value (certificate.rewards v cs rs) s (reward_at v s) ≡ true
reward_valued v cs rs s h = ap₂ (λ (a b : Bool). a && b) (lt-ltb s (length v) h) (same_reward (reward_at v s))

gain_valued : (g a b : List ℚ) (cs : List ℕ) (k : ℚ) (s : ℕ) → s < length g → has_value (certificate.gains g a b cs k) s (Some (value_at g s)) ≡ true
gain_valued g a b cs k s h = ap₂ (λ (a b : Bool). a && b) (lt-ltb s (length g) h) ((equal_decides (value_at g s) (value_at g s)).1 refl)

-- whether a value may stand in the line `init` of a claim
abbrev pub may_stand : PlainClaim → Option ℚ → Bool
may_stand claim None = may_be_infinite claim
may_stand claim (Some x) = true

pub may_be_reward : (dir : Dir) (name label : List ℕ) (v : Option ℚ) → may_stand (certificate.reward dir name label) v ≡ true
may_be_reward dir name label None = refl
may_be_reward dir name label (Some x) = refl

inside_by : (claim : PlainClaim) → is_witness claim ≡ false → (i : Option ℕ) (value : ℕ → Option ℚ) (n : ℕ)
    → ((s : ℕ) → i ≡ Some s → (s < n) × (may_stand claim (value s) ≡ true)) → is_init_of claim n (init_by i value) ≡ true
inside_by claim plain None value n h = ap not plain
inside_by claim plain (Some s) value n h = by (value s) (h s refl).1
  where
    below : nat_lt s n ≡ true
    below = lt-ltb s n (h s refl).0

    by : (v : Option ℚ) → may_stand claim v ≡ true → is_init_of claim n (init_of s v) ≡ true
    by None e = ap₂ (λ (a b : Bool). a && b) e below
    by (Some x) e = ap₂ (λ (a b : Bool). a && b) (ap not plain) below

pub init_inside : (claim : PlainClaim) → is_witness claim ≡ false → (m : Mdp) (value : ℕ → Option ℚ) (n : ℕ) (init : Init)
    → n ≡ states_of m → ((s : ℕ) → may_stand claim (value s) ≡ true) → init ≡ init_by (initial_of m) value
    → is_init_of claim n init ≡ true
init_inside claim plain m value n init e may i =
    ap (is_init_of claim n) i ∙ inside_by claim plain (initial_of m) value n (λ s h. (let l = initial_below m s h in omega (arith, l, e), may s))

three : {V : Type 0} (states n : ℕ) (zs : List V) (cs rs : List ℕ) → n ≡ states → length zs ≡ states → length cs ≡ states → length rs ≡ states
    → (eqb (length zs) n && eqb (length cs) n && eqb (length rs) n) ≡ true
three states n zs cs rs e x y z =
    ap₂ (λ (a b : Bool). a && b) (ap₂ (λ (a b : Bool). a && b) (eq-eqb (length zs) n (x ∙ sym e)) (eq-eqb (length cs) n (y ∙ sym e))) (eq-eqb (length rs) n (z ∙ sym e))

pub body_entries : (dir : Dir) (stay : Option (List ℕ)) (label : List ℕ) (states n : ℕ) (zs : List ℚ) (cs rs : List ℕ) → n ≡ states → length zs ≡ states → length cs ≡ states
    → length rs ≡ states → is_body_of (claim_of dir stay label) n (certificate.policy zs cs rs) ≡ true
body_entries dir None label states n zs cs rs e x y z = three states n zs cs rs e x y z
body_entries dir (Some stay) label states n zs cs rs e x y z = three states n zs cs rs e x y z

pub no_witness : (dir : Dir) (stay : Option (List ℕ)) (label : List ℕ) → is_witness (claim_of dir stay label) ≡ false
no_witness dir None label = refl
no_witness dir (Some stay) label = refl

pub no_threshold : (dir : Dir) (stay : Option (List ℕ)) (label : List ℕ) → has_threshold (claim_of dir stay label) ≡ true
no_threshold dir None label = refl
no_threshold dir (Some stay) label = refl

no_reward : (m : Mdp) (dir : Dir) (stay : Option (List ℕ)) (label : List ℕ) → reward_place m (claim_of dir stay label) ≡ Some 0
no_reward m dir None label = refl
no_reward m dir (Some stay) label = refl

valid : (m : Mdp) (goals : List Bool) (start : ℕ) (dir : Dir) (stay : Option (List ℕ)) (label : List ℕ) (z : List ℚ) (cs rs : List ℕ) → IsReach dir (way_by m goals stay) goals z cs rs
    → valid_by m 0 goals start (claim_of dir stay label) (certificate.policy z cs rs)
valid m goals start dir None label z cs rs rules = rules
valid m goals start dir (Some stay) label z cs rs rules = rules

pub reward_entries : (dir : Dir) (name label : List ℕ) (states n : ℕ) (vs : List (Option ℚ)) (cs rs : List ℕ) → n ≡ states → length vs ≡ states → length cs ≡ states → length rs ≡ states
    → is_body_of (certificate.reward dir name label) n (certificate.rewards vs cs rs) ≡ true
reward_entries dir name label states n vs cs rs e x y z = three states n vs cs rs e x y z

pub mean_entries : (dir : Dir) (name : List ℕ) (states n : ℕ) (a : averaged.Answer) → n ≡ states → HasMeanSizes states a
    → is_body_of (certificate.mean dir name) n (certificate.gains a.gains a.bound a.bias a.choices a.spread) ≡ true
mean_entries dir name states n a e sizes =
    ap₂ (λ (a b : Bool). a && b)
    (ap₂ (λ (a b : Bool). a && b)
    (ap₂ (λ (a b : Bool). a && b) (eq-eqb (length a.gains) n (sizes.gains ∙ sym e)) (eq-eqb (length a.bound) n (sizes.bound ∙ sym e)))
    (eq-eqb (length a.bias) n (sizes.bias ∙ sym e)))
    (eq-eqb (length a.choices) n (sizes.choices ∙ sym e))

marks_found : (m : Mdp) (label : List ℕ) (l : ℕ) → place_of label m.labels ≡ Some l → labelled_marks m label ≡ Some (marks_of m l)
marks_found m label l e = ap (option_map (marks_of m)) e

-- a certificate that belongs to the model is shown by its text
pub printed_by : (m : Mdp) (c : Certificate) → is_witness c.claim ≡ false → IsMdp m → IsReadBack → IsAccepted m c → Fits c → (text : List ℕ) → text ≡ text_of c → IsClaimPrinted c.claim m text
printed_by m c plain mdp back accepted fits text spelled = record {
  cert = c;
  claim = refl;
  spelled = spelled;
  short = subst (λ (t : List ℕ). length t ≤ most_bytes) (sym spelled) (text_short c fits plain);
  reads = ap outcome spelled ∙ (back c fits).0;
  holds = accepted;
  bound = accepted_is_bound m c mdp accepted;
}

module _ (dir : Dir) (stay : Option (List ℕ)) (label : List ℕ) (m : Mdp) (goals : List Bool) (a : Answer) (found : goals_by m stay label ≡ Some goals)
    (rules : IsReach dir (way_by m goals stay) goals a.values a.choices a.ranks) (each : HasOneEach m a) where
  pub accepted : IsAccepted m (certificate_of dir stay label m a)
  accepted = record {
    states = refl;
    entries = body_entries dir stay label (states_of m) (states_of m) a.values a.choices a.ranks refl each.values each.choices each.ranks;
    reward = 0;
    named = no_reward m dir stay label;
    goals = goals;
    marked = marked m dir stay label goals found;
    init = init_holds (initial_of m) _ (certificate.policy a.values a.choices a.ranks) refl
        (λ s e. reach_valued a.values a.choices a.ranks s (let lt = initial_below m s e in let n = each.values in omega (arith, lt, n)));
    body = valid m goals _ dir stay label a.values a.choices a.ranks rules;
  }

  pub printed : IsMdp m → IsReadBack → (text : List ℕ) → Fits (certificate_of dir stay label m a) → text ≡ text_of (certificate_of dir stay label m a) → IsReachPrinted dir stay label m text
  printed mdp back text fits spelled = printed_by m (certificate_of dir stay label m a) (no_witness dir stay label) mdp back accepted fits text spelled

module _ (dir : Dir) (name label : List ℕ) (m : Mdp) (r l : ℕ) (a : rewarded.Answer) (named : place_of name m.names ≡ Some r) (found : place_of label m.labels ≡ Some l)
    (rules : IsReward dir m r (marks_of m l) a.values a.choices a.ranks) (ranks : length a.ranks ≡ states_of m) where
  values : length a.values ≡ states_of m
  values = reward_values_size dir m r (marks_of m l) a.values a.choices a.ranks rules.rules

  pub reward_accepted : IsAccepted m (reward_certificate_of dir name label m a)
  reward_accepted = record {
    states = refl;
    entries = reward_entries dir name label (states_of m) (states_of m) a.values a.choices a.ranks refl values
        (reward_choices_size dir m r (marks_of m l) a.values a.choices a.ranks rules.rules) ranks;
    reward = r;
    named = named;
    goals = marks_of m l;
    marked = marks_found m label l found;
    init = init_holds (initial_of m) _ (certificate.rewards a.values a.choices a.ranks) refl (λ s e. reward_valued a.values a.choices a.ranks s (let lt = initial_below m s e in let n = values in omega (arith, lt, n)));
    body = rules;
  }

  pub reward_printed : IsMdp m → IsReadBack → (text : List ℕ) → Fits (reward_certificate_of dir name label m a) → text ≡ text_of (reward_certificate_of dir name label m a)
      → IsRewardPrinted dir name label m text
  reward_printed mdp back text fits spelled = printed_by m (reward_certificate_of dir name label m a) refl mdp back reward_accepted fits text spelled

module _ (dir : Dir) (name : List ℕ) (m : Mdp) (r : ℕ) (a : averaged.Answer) (named : place_of name m.names ≡ Some r)
    (rules : IsMean dir m r a.gains a.bound a.bias a.spread a.choices) (sizes : HasMeanSizes (states_of m) a) where
  pub mean_accepted : IsAccepted m (mean_certificate_of dir name m a)
  mean_accepted = record {
    states = refl;
    entries = mean_entries dir name (states_of m) (states_of m) a refl sizes;
    reward = r;
    named = named;
    goals = replicate (states_of m) false;
    marked = refl;
    init = init_holds (initial_of m) _ (certificate.gains a.gains a.bound a.bias a.choices a.spread) refl
        (λ s e. gain_valued a.gains a.bound a.bias a.choices a.spread s (let lt = initial_below m s e in let n = sizes.gains in omega (arith, lt, n)));
    body = rules;
  }

  pub mean_printed : IsMdp m → IsReadBack → (text : List ℕ) → Fits (mean_certificate_of dir name m a) → text ≡ text_of (mean_certificate_of dir name m a) → IsMeanPrinted dir name m text
  mean_printed mdp back text fits spelled = printed_by m (mean_certificate_of dir name m a) refl mdp back mean_accepted fits text spelled

-- ---- what is said

-- a certificate is said by its text, unless memory is wanting
abbrev pub IsTextOf : Certificate → Said → Type 0
IsTextOf c said = (said ≡ Err no_memory) ⊎ (said ≡ Ok (text_of c))

pub text_printed : (P : List ℕ → Type 0) (c : Certificate) (said : Said) → ((text : List ℕ) → text ≡ text_of c → P text) → IsTextOf c said → IfOk said P
text_printed P c (Ok text) shows (inl memory) = cc memory
text_printed P c (Ok text) shows (inr e) = shows text (cc e)
text_printed P c (Err r) shows e = tt

-- the text of an answer is due, where the query ends with it
pub text_due : (dir : Dir) (stay : Option (List ℕ)) (label : List ℕ) (m : Mdp) (goals : List Bool) (a : Answer) (c : Certificate) (said : Said)
    → EndsSo dir (way_by m goals stay) goals (Ok a) → c ≡ certificate_of dir stay label m a → IsTextOf c said → (said ≡ Err no_memory) ⊎ IsReachEnd dir stay label m goals said
text_due dir stay label m goals a c said end is (inl memory) = inl memory
text_due dir stay label m goals a c said end is (inr e) = inr (Ok a, end, e ∙ ap (λ (x : Certificate). let r : Said = Ok (text_of x) in r) is)
