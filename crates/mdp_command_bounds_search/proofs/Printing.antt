-- What is shown of found bounds: their certificate is one of the query's claim, it is accepted for the model, and its text reads as it.
use Rattle.std.proofs.Common.{◌≡◌, ℕ, ◌<◌, ◌≤◌, ◌⊎◌, inl, inr, Bool, true, false, cond, ◌&&◌, eqb, List, length, Option, Some, None}
use Rattle.std.proofs.{Common.{Ok, Err, IfOk, refl, sym, ap, ap₂, subst, ◌∙◌, arith, eq-eqb, lt-ltb}, Math.ListN.{replicate}}
use Rattle.std.specs.Prelude.{All, option_map}
use Rattle.mdp_math.specs.Rational.{ℚ}
use Rattle.mdp_num.specs.OrderView.{equal_decides}
use Rattle.mdp_spec.specs.{Bounds.{reward_at}, Labels.{place_of, marks_of, initial_of}, Mdp.{Mdp, states_of, value_at}, Row.{IsMdp}, Sub.{sub_of}}
use Rattle.mdp_spec.proofs.Subsystem.{sub-states}
use Rattle.mdp_rows.proofs.FoundNames.{found_among, name_of_reward}
use Rattle.mdp_rows.specs.{Name.{IsName, IsRewardName}, declared.dir.Dir.{Dir}}
use Rattle.mdp_farkas.specs.Initial.{init_fault, is_value}
use Rattle.mdp_claims.specs.declared.verdict.Verdict.TheVariants.{Yes}
use Rattle.mdp_bounds.specs.{Reach.{IsReachBounds}, Reward.{IsRewardBounds}, Mean.{IsMeanBounds}}
use Rattle.mdp_text.proofs.InitialState.{initial_below}
use Rattle.mdp_cert.specs.Cert as certificate
use Rattle.mdp_cert.specs.{Cert.{PlainClaim, reach, until, reward, mean}, Claims.{reward_same}}
use Rattle.mdp_cert.specs.{BoundsCert.{PlainBounds, probabilities, rewards, gains, Certificate, Fits, may_be, is_init_of, is_body_of}, BoundsLaws.{IsReadBack}}
use Rattle.mdp_cert.specs.{BoundsReading.{outcome}, BoundsSpelling.{text_of}}
use Rattle.mdp_cert.proofs.BoundsBodies.{reach-counts, reward-counts, mean-counts}
use Rattle.mdp_check.specs.{Bounds.{IsBoundsAccepted}, BoundsInitial.{bounds_init_check}, BoundsLaws.{AcceptedBoundsAreTrue}, Initial.{is_reward}}
use Rattle.mdp_check.specs.Check.{labelled_marks, marks_on_way, stays_at, way_of}
use Rattle.mdp_job.specs.{Job.{PlainQuery}, Refusal.{PlainRefusal, no_memory}}
use Rattle.mdp_command.specs.{Files.{most_bytes}, Said.{Said}}
use Rattle.mdp_command_bounds_search.specs.Certificate.{HasValues, init_between, certificate_of, AreBounds}
use Rattle.mdp_command_bounds_search.specs.Due.{claim_of, label_fault, until_fault, fault_of, IsAcceptedText, IsDueBy, IsBoundsDue}
use Rattle.mdp_command_bounds_search.specs.{Near.{IsNearOrWide}, Shown.{IsBoundsPrinted}}
use Rattle.mdp_command_bounds_search.proofs.TextLength.{text_short}

-- ---- the states of a label

-- marks that are those of a label are those of its place
pub marked_at : (m : Mdp) (place : Option ℕ) (marks : List Bool) → option_map (marks_of m) place ≡ Some marks → (l : ℕ) × (place ≡ Some l) × (marks_of m l ≡ marks)
marked_at m None marks e = absurd cc
marked_at m (Some l) marks e = (l, refl, cc e)

-- a label that has such marks is there
pub label_there : (m : Mdp) (place : Option ℕ) (marks : List Bool) → option_map (marks_of m) place ≡ Some marks → label_fault place ≡ None
label_there m None marks e = absurd cc
label_there m (Some l) marks e = refl

-- of two labels
pub labels_there : (m : Mdp) (stay label : Option ℕ) (stays goals : List Bool) → option_map (marks_of m) stay ≡ Some stays → option_map (marks_of m) label ≡ Some goals → until_fault stay label ≡ None
labels_there m None label stays goals e f = absurd cc
labels_there m (Some a) label stays goals e f = label_there m label goals f

-- ---- a body has an entry per state

pub values_of_body : (claim : PlainClaim) (n : ℕ) (body : PlainBounds) → is_body_of claim n body ≡ true → HasValues n body
values_of_body claim n (probabilities lower upper choices ranks) e = let k = reach-counts claim n lower upper choices ranks e in (k.lower, k.upper)
values_of_body claim n (rewards lower upper choices ranks) e = let k = reward-counts claim n lower upper choices ranks e in (k.lower, k.upper)
values_of_body claim n (gains lower upper bound bias choices spread) e = let k = mean-counts claim n lower upper bound bias choices spread e in (k.lower, k.upper)

four : (n a b c d : ℕ) → a ≡ n → b ≡ n → c ≡ n → d ≡ n → (eqb a n && eqb b n && eqb c n && eqb d n) ≡ true
four n a b c d x y z w =
    ap₂ (λ (p q : Bool). p && q) (ap₂ (λ (p q : Bool). p && q) (ap₂ (λ (p q : Bool). p && q) (eq-eqb a n x) (eq-eqb b n y)) (eq-eqb c n z)) (eq-eqb d n w)

module _ (dir : Dir) (label : List ℕ) (m : Mdp) (l : ℕ) (known : All IsName m.labels) (found : place_of label m.labels ≡ Some l) where
  -- bounds of the probabilities of reaching this label
  pub reach_bounds : (goals : List Bool) (lower upper : List ℚ) (choices ranks : List ℕ) → goals ≡ marks_of m l → IsReachBounds dir m goals lower upper choices ranks
      → length lower ≡ states_of m → length upper ≡ states_of m → length choices ≡ states_of m → length ranks ≡ states_of m
      → AreBounds (reach dir label) m (probabilities lower upper choices ranks)
  reach_bounds goals lower upper choices ranks same rules x y z w = record {
    names = found_among IsName label m.labels l found known;
    entries = four (states_of m) (length lower) (length upper) (length choices) (length ranks) x y z w;
    reward = 0;
    named = refl;
    goals = marks_of m l;
    marked = ap (option_map (marks_of m)) found;
    valid = subst (λ (g : List Bool). IsReachBounds dir m g lower upper choices ranks) same rules;
  }

  -- bounds of the rewards of this name until this label
  pub reward_bounds : (name : List ℕ) (r : ℕ) → All IsRewardName m.names → place_of name m.names ≡ Some r → (goals : List Bool) (lower upper : List (Option ℚ)) (choices ranks : List ℕ)
      → goals ≡ marks_of m l → IsRewardBounds dir m r goals lower upper choices ranks → length lower ≡ states_of m → length upper ≡ states_of m
      → length choices ≡ states_of m → length ranks ≡ states_of m → AreBounds (reward dir name label) m (rewards lower upper choices ranks)
  reward_bounds name r names named goals lower upper choices ranks same rules x y z w = record {
    names = ap₂ (λ (p q : Bool). p && q) (name_of_reward name (found_among IsRewardName name m.names r named names)) (found_among IsName label m.labels l found known);
    entries = four (states_of m) (length lower) (length upper) (length choices) (length ranks) x y z w;
    reward = r;
    named = named;
    goals = marks_of m l;
    marked = ap (option_map (marks_of m)) found;
    valid = subst (λ (g : List Bool). IsRewardBounds dir m r g lower upper choices ranks) same rules;
  }

-- the model that is cut down to these states is the one on which the claim is checked
way_is : (m : Mdp) (stay : List ℕ) (stays goals : List Bool) → labelled_marks m stay ≡ Some stays → sub_of m goals stays ≡ way_of m goals stay
way_is m stay stays goals e = let at = marked_at m (place_of stay m.labels) stays e in ap (sub_of m goals) (sym at.2 ∙ ap (stays_at m) (sym at.1))

-- and it has as many states
pub way_states : (m : Mdp) (stays goals : List Bool) (way : Mdp) → way ≡ sub_of m goals stays → states_of way ≡ states_of m
way_states m stays goals way is = ap states_of is ∙ sub-states m goals stays

-- bounds of the probabilities of reaching this label by way of states of that one alone
pub until_bounds : (dir : Dir) (stay label : List ℕ) (m : Mdp) → All IsName m.labels → (stays goals : List Bool) → labelled_marks m stay ≡ Some stays → labelled_marks m label ≡ Some goals
    → (way : Mdp) → way ≡ sub_of m goals stays → (lower upper : List ℚ) (choices ranks : List ℕ) → IsReachBounds dir way goals lower upper choices ranks → length lower ≡ states_of way
    → length upper ≡ states_of way → length choices ≡ states_of way → length ranks ≡ states_of way → AreBounds (until dir stay label) m (probabilities lower upper choices ranks)
until_bounds dir stay label m known stays goals stayed marked way is lower upper choices ranks rules x y z w =
    let a = marked_at m (place_of stay m.labels) stays stayed in
    let l = marked_at m (place_of label m.labels) goals marked in
    let size = way_states m stays goals way is in
    record {
      names = ap₂ (λ (p q : Bool). p && q) (found_among IsName stay m.labels a.0 a.1 known) (found_among IsName label m.labels l.0 l.1 known);
      entries = four (states_of m) (length lower) (length upper) (length choices) (length ranks) (x ∙ size) (y ∙ size) (z ∙ size) (w ∙ size);
      reward = 0;
      named = refl;
      goals = goals;
      marked = subst (λ (o : Option ℕ). marks_on_way m label o ≡ Some goals) (sym a.1) marked;
      valid = subst (λ (k : Mdp). IsReachBounds dir k goals lower upper choices ranks) (is ∙ way_is m stay stays goals stayed) rules;
    }

-- bounds of the mean payoffs of this name
pub mean_bounds : (dir : Dir) (name : List ℕ) (m : Mdp) (r : ℕ) → All IsRewardName m.names → place_of name m.names ≡ Some r → (lower upper bound bias : List ℚ) (spread : ℚ) (choices : List ℕ)
    → IsMeanBounds dir m r lower upper bound bias spread choices → length lower ≡ states_of m → length upper ≡ states_of m → length bound ≡ states_of m
    → length bias ≡ states_of m → length choices ≡ states_of m → AreBounds (mean dir name) m (gains lower upper bound bias choices spread)
mean_bounds dir name m r names named lower upper bound bias spread choices rules x y z w v = record {
  names = name_of_reward name (found_among IsRewardName name m.names r named names);
  entries = ap₂ (λ (p q : Bool). p && q) (four (states_of m) (length lower) (length upper) (length bound) (length bias) x y z w) (eq-eqb (length choices) (states_of m) v);
  reward = r;
  named = named;
  goals = replicate (states_of m) false;
  marked = refl;
  valid = rules;
}

-- ---- the line `init`

value_there : (v : List ℚ) (s n : ℕ) → s < n → length v ≡ n → is_value v s (value_at v s) ≡ true
value_there v s n lt size = ap₂ (λ (a b : Bool). a && b) (lt-ltb s (length v) (omega (arith, lt, size))) ((equal_decides (value_at v s) (value_at v s)).1 refl)

same_reward : (v : Option ℚ) → reward_same v v ≡ true
same_reward None = refl
same_reward (Some x) = (equal_decides x x).1 refl

reward_there : (v : List (Option ℚ)) (s n : ℕ) → s < n → length v ≡ n → is_reward v s (reward_at v s) ≡ true
reward_there v s n lt size = ap₂ (λ (a b : Bool). a && b) (lt-ltb s (length v) (omega (arith, lt, size))) (same_reward (reward_at v s))

-- where the initial state has its values, the line is right
pub right_line : (s : ℕ) (valued : Bool) → valued ≡ true → cond (eqb s s && valued) Yes (init_fault (Some s)) ≡ Yes
right_line s valued e = ap₂ (λ (a b : Bool). cond (a && b) Yes (init_fault (Some s))) (eq-eqb s s refl) e

init_holds : (n : ℕ) (o : Option ℕ) (body : PlainBounds) → HasValues n body → ((s : ℕ) → o ≡ Some s → s < n) → bounds_init_check (init_between o body) o body ≡ Yes
init_holds n None body has below = refl
init_holds n (Some s) (probabilities lower upper choices ranks) has below =
    right_line s _ (ap₂ (λ (a b : Bool). a && b) (value_there lower s n (below s refl) has.0) (value_there upper s n (below s refl) has.1))
init_holds n (Some s) (rewards lower upper choices ranks) has below =
    right_line s _ (ap₂ (λ (a b : Bool). a && b) (reward_there lower s n (below s refl) has.0) (reward_there upper s n (below s refl) has.1))
init_holds n (Some s) (gains lower upper bound bias choices spread) has below =
    right_line s _ (ap₂ (λ (a b : Bool). a && b) (value_there lower s n (below s refl) has.0) (value_there upper s n (below s refl) has.1))

may_be_reward : (dir : Dir) (name label : List ℕ) (v : Option ℚ) → may_be (reward dir name label) v ≡ true
may_be_reward dir name label None = refl
may_be_reward dir name label (Some x) = refl

-- and it may stand in a certificate
pub init_inside : (claim : PlainClaim) (n : ℕ) (o : Option ℕ) (body : PlainBounds) → is_body_of claim n body ≡ true → ((s : ℕ) → o ≡ Some s → s < n)
    → is_init_of claim n (init_between o body) ≡ true
init_inside claim n None body e below = refl
init_inside claim n (Some s) (probabilities lower upper choices ranks) e below = ap (λ (b : Bool). b && true && true) (lt-ltb s n (below s refl))
init_inside (certificate.upper label) n (Some s) (rewards lower high choices ranks) e below = absurd cc
init_inside (reach dir label) n (Some s) (rewards lower high choices ranks) e below = absurd cc
init_inside (until dir stay label) n (Some s) (rewards lower high choices ranks) e below = absurd cc
init_inside (reward dir name label) n (Some s) (rewards lower high choices ranks) e below =
    ap₂ (λ (a b : Bool). a && b) (ap₂ (λ (a b : Bool). a && b) (lt-ltb s n (below s refl)) (may_be_reward dir name label (reward_at lower s))) (may_be_reward dir name label (reward_at high s))
init_inside (mean dir name) n (Some s) (rewards lower high choices ranks) e below = absurd cc
init_inside (certificate.witness dir stay label threshold) n (Some s) (rewards lower high choices ranks) e below = absurd cc
init_inside claim n (Some s) (gains lower upper bound bias choices spread) e below = ap (λ (b : Bool). b && true && true) (lt-ltb s n (below s refl))

-- ---- the certificate is accepted

module _ (claim : PlainClaim) (m : Mdp) (body : PlainBounds) (bounds : AreBounds claim m body) where
  accepted : IsBoundsAccepted m (certificate_of claim m body)
  accepted = record {
    states = refl;
    entries = bounds.entries;
    reward = bounds.reward;
    named = bounds.named;
    goals = bounds.goals;
    marked = bounds.marked;
    init = init_holds (states_of m) (initial_of m) body (values_of_body claim (states_of m) body bounds.entries) (initial_below m);
    body = bounds.valid;
  }

  pub accepted_text : (c : Certificate) (said : Said) → c ≡ certificate_of claim m body → Fits c → said ≡ Ok (text_of c) → IsAcceptedText claim m said
  accepted_text c said is fits e = record {
    cert = certificate_of claim m body;
    claimed = refl;
    fits = subst Fits is fits;
    accepted = accepted;
    spelled = e ∙ ap (λ (x : Certificate). let s : Said = Ok (text_of x) in s) is;
  }

-- ---- what is shown of a text

module _ (dir : Dir) (query : PlainQuery) (digits : ℕ) (m : Mdp) (body : PlainBounds) (bounds : AreBounds (claim_of dir query) m body) (near : IsNearOrWide digits dir query m body) where
  abbrev own : Certificate
  own = certificate_of (claim_of dir query) m body

  printed_text : IsMdp m → IsReadBack → AcceptedBoundsAreTrue → Fits own → (text : List ℕ) → text ≡ text_of own → IsBoundsPrinted dir query digits m text
  printed_text mdp back true_of fits text spelled =
      let holds = accepted (claim_of dir query) m body bounds in
      record {
        cert = own;
        claim = refl;
        spelled = spelled;
        short = subst (λ (t : List ℕ). length t ≤ most_bytes) (sym spelled) (text_short own fits);
        reads = ap outcome spelled ∙ back own fits;
        holds = holds;
        bound = true_of m own mdp holds;
        near = near;
      }

  -- what is said: the text, or that memory is wanting
  abbrev IsTextOf : Certificate → Said → Type 0
  IsTextOf c said = (said ≡ Err no_memory) ⊎ (said ≡ Ok (text_of c))

  pub printed : IsMdp m → IsReadBack → AcceptedBoundsAreTrue → (c : Certificate) (said : Said) → c ≡ own → Fits c → IsTextOf c said
      → IfOk said (IsBoundsPrinted dir query digits m)
  printed mdp back true_of c (Ok text) is fits (inl memory) = cc memory
  printed mdp back true_of c (Ok text) is fits (inr e) = printed_text mdp back true_of (subst Fits is fits) text (let t : text ≡ text_of c = cc e in t ∙ ap text_of is)
  printed mdp back true_of c (Err refusal) is fits e = tt

-- ---- what is due

module _ (dir : Dir) (query : PlainQuery) (m : Mdp) where
  pub text_due : (body : PlainBounds) → AreBounds (claim_of dir query) m body → fault_of query m ≡ None → (c : Certificate) (said : Said)
      → c ≡ certificate_of (claim_of dir query) m body → Fits c → (said ≡ Err no_memory) ⊎ (said ≡ Ok (text_of c)) → (said ≡ Err no_memory) ⊎ IsBoundsDue dir query m said
  text_due body bounds fitting c said is fits (inl memory) = inl memory
  text_due body bounds fitting c said is fits (inr e) =
      inr (subst (λ (o : Option PlainRefusal). IsDueBy (claim_of dir query) m o said) (sym fitting) (accepted_text (claim_of dir query) m body bounds c said is fits e))
