-- What is shown of a solved query: its certificate belongs to the model, and its text reads as it.
use Rattle.std.proofs.Common.{◌≡◌, ℕ, ◌<◌, ◌≤◌, ◌⊎◌, inl, inr, Bool, cond, ◌&&◌, List, [], length, Option}
use Rattle.std.proofs.{Common.{Some, None, Result, Ok, Err, IfOk, refl, sym, ap, ap₂, subst, ◌∙◌, eq-eqb, lt-ltb}, lemmas.List.Quantifiers.{position-Some}}
use Rattle.std.proofs.lemmas.Slice.Eq.{bytes_eq-Decides}
use Rattle.std.specs.{Prelude.{slice_index_or}, Str.{bytes_eq}}
use Rattle.mdp_math.specs.Rational.{ℚ}
use Rattle.mdp_num.specs.OrderView.{equal_decides}
use Rattle.mdp_spec.specs.{Labels.{place_of, initial_of}, Mdp.{Mdp, states_of, value_at}}
use Rattle.mdp_rows.specs.declared.dir.Dir.{Dir}
use Rattle.mdp_policy_iteration.specs.Path.{Found, Refusal}
use Rattle.mdp_farkas.specs.{Verdict.{verdict_of}, Initial.{init_fault}}
use Rattle.mdp_claims.specs.declared.verdict.Verdict.{Verdict}
use Rattle.mdp_claims.specs.declared.verdict.Verdict.TheVariants as verdict
use Rattle.mdp_discount_rules.specs.{Bounds.{DiscountBound}, Cert.{Certificate, Fits}, Check.{init_check, IsAccepted, IsBound}}
use Rattle.mdp_discount_rules.specs.Checks.{written_greatest, discount_checks, IsDiscount}
use Rattle.mdp_text.specs.Heads.{init_by}
use Rattle.mdp_discount.specs.Query.{cut_found, answer_of, Held, AfterRemainder, AfterPath, EndsSo}
use Rattle.mdp_text.proofs.InitialState.{initial_below}
use Rattle.mdp_discount_text.specs.{Laws.{IsReadBack}, Spelling.{text_of}, Text.{outcome}}
use Rattle.mdp_job.specs.Refusal.{no_memory}
use Rattle.mdp_command.specs.{Files.{most_bytes}, Said.{Said}}
use Rattle.mdp_command_solve.specs.{DiscountDue.{IsNamedDue, IsDiscountDue}, DiscountShown.{ClaimsSo, IsDiscountPrinted}}
use Rattle.mdp_command_solve.proofs.DiscountLength.{text_short}

-- ---- the reward's name

pub name_at : (name : List ℕ) (names : List (List ℕ)) (r : ℕ) → place_of name names ≡ Some r → slice_index_or names r [] ≡ name
name_at name names r e = let p = position-Some (bytes_eq name) names r [] e in sym ((bytes_eq-Decides name (slice_index_or names r [])).0 p.1)

-- ---- the answer of a query

-- its claim is that of the query, and its line `init` has the model's one initial state with its value
pub record IsOfQuery (dir : Dir) (name : List ℕ) (f : ℚ) (m : Mdp) (a : Certificate) : Type 0 where
  pub claim : ClaimsSo dir name f a
  pub init : a.init ≡ init_by (initial_of m) (λ s. Some (value_at a.values s))

module _ (dir : Dir) (m : Mdp) (r : ℕ) (name : List ℕ) (f : ℚ) (a : Certificate) where
  of_verdict : (found : Found) (remainder : ℚ) (v : Verdict) → Held dir m name f found remainder v (Ok a) → IsOfQuery dir name f m a
  of_verdict found remainder verdict.Yes h =
      let same : answer_of dir m name f found remainder ≡ a = cc h in
      subst (IsOfQuery dir name f m) same (record { claim = record { direction = refl; named = refl; discounted = refl }; init = refl })
  of_verdict found remainder (verdict.No fault) h = absurd h
  of_verdict found remainder (verdict.Wide state choice) h = cc h

  of_remainder : (found : Found) (o : Option ℚ) → AfterRemainder dir m r name f found o (Ok a) → IsOfQuery dir name f m a
  of_remainder found None h = cc h
  of_remainder found (Some remainder) h = of_verdict found remainder (verdict_of (discount_checks dir m r f found.values remainder found.policy)) h

  of_path : (end : Result Found Refusal) → AfterPath dir m r name f end (Ok a) → IsOfQuery dir name f m a
  of_path (Err refusal) h = cc h
  of_path (Ok found) h = let cut : Found = cut_found (states_of m) found in of_remainder cut (written_greatest cut.values) h

  pub answer_of_query : EndsSo dir m r name f (Ok a) → IsOfQuery dir name f m a
  answer_of_query ends = of_path ends.end ends.after

-- ---- the line `init`

init_holds : (o : Option ℕ) (v : List ℚ) → ((s : ℕ) → o ≡ Some s → s < length v) → init_check (init_by o (λ s. Some (value_at v s))) o v ≡ verdict.Yes
init_holds None v below = refl
init_holds (Some s) v below =
    ap₂ (λ (a b : Bool). cond (a && b) verdict.Yes (init_fault (Some s))) (eq-eqb s s refl)
    (ap₂ (λ (a b : Bool). a && b) (lt-ltb s (length v) (below s refl)) ((equal_decides (value_at v s) (value_at v s)).1 refl))

-- ---- the certificate belongs to the model

module _ (dir : Dir) (name : List ℕ) (f : ℚ) (m : Mdp) (r : ℕ) (found : place_of name m.names ≡ Some r) (a : Certificate) (is : IsOfQuery dir name f m a)
    (rules : IsDiscount dir m r f a.values a.remainder a.choices) where
  named_so : place_of a.name m.names ≡ Some r
  named_so = ap (λ (n : List ℕ). place_of n m.names) is.claim.named ∙ found

  accepted : IsAccepted m a
  accepted = record {
    states = rules.rules.one_each;
    reward = r;
    named = named_so;
    init =
        ap (λ (i : _). init_check i (initial_of m) a.values) is.init
        ∙ init_holds (initial_of m) a.values (λ s e. subst (λ (n : ℕ). s < n) (sym rules.rules.one_each) (initial_below m s e));
    rules =
        subst (λ (g : ℚ). IsDiscount a.dir m r g a.values a.remainder a.choices) (sym is.claim.discounted)
        (subst (λ (d : Dir). IsDiscount d m r f a.values a.remainder a.choices) (sym is.claim.direction) rules);
  }

  bounded : DiscountBound dir m r f a.values a.remainder a.choices → IsBound m a
  bounded best = record {
    reward = r;
    named = named_so;
    holds =
        subst (λ (g : ℚ). DiscountBound a.dir m r g a.values a.remainder a.choices) (sym is.claim.discounted)
        (subst (λ (d : Dir). DiscountBound d m r f a.values a.remainder a.choices) (sym is.claim.direction) best);
  }

  printed_text : IsReadBack → Fits a → EndsSo dir m r name f (Ok a) → DiscountBound dir m r f a.values a.remainder a.choices → (text : List ℕ) → text ≡ text_of a → IsDiscountPrinted dir name f m text
  printed_text back fits ends best text spelled = record {
    cert = a;
    computed = record { place = r; named = found; ends = ends };
    claim = is.claim;
    spelled = spelled;
    short = subst (λ (t : List ℕ). length t ≤ most_bytes) (sym spelled) (text_short a fits);
    reads = ap outcome spelled ∙ back a fits;
    holds = accepted;
    bound = bounded best;
  }

  pub printed : IsReadBack → Fits a → EndsSo dir m r name f (Ok a) → DiscountBound dir m r f a.values a.remainder a.choices
      → (said : Said) → (said ≡ Err no_memory) ⊎ (said ≡ Ok (text_of a)) → IfOk said (IsDiscountPrinted dir name f m)
  printed back fits ends best (Ok text) (inl memory) = cc memory
  printed back fits ends best (Ok text) (inr e) = printed_text back fits ends best text (cc e)
  printed back fits ends best (Err refusal) e = tt

-- ---- what is due

pub text_due : (dir : Dir) (name : List ℕ) (f : ℚ) (m : Mdp) (r : ℕ) → place_of name m.names ≡ Some r → (a : Certificate) (said : Said) → EndsSo dir m r name f (Ok a)
    → (said ≡ Err no_memory) ⊎ (said ≡ Ok (text_of a)) → (said ≡ Err no_memory) ⊎ IsDiscountDue dir name f m said
text_due dir name f m r found a said end (inl memory) = inl memory
text_due dir name f m r found a said end (inr e) = inr (subst (λ (o : Option ℕ). IsNamedDue dir name f m o said) (sym found) (Ok a, end, e))
