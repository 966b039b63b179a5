-- The lines of claim, states and init are read exactly where they are the texts of what is read.
use Rattle.std.proofs.Common.{◌≡◌, ℕ, ◌+◌, ◌<◌, true, ltb, List, ◌++◌, Some, Result, Ok, refl, ap, subst}
use Rattle.std.proofs.{lemmas.Bool.{and_parts, ltb-true}}
use Rattle.mdp_text.specs.{declared.error.CertKind.TheVariants.{Claim}, declared.error.Refusal.{Refusal}, Heads.{IsInitInWidth, start_at}}
use Rattle.mdp_text.specs.{declared.init.Init.{Init}, declared.init.Init.TheVariants.{Missing, Finite, Infinite, Start}, Lines.{◌>>=◌, or_refused, Place, place}, Spelling.{init_text}}
use Rattle.mdp_text.proofs.Feeds.{bind_ok, found_ok}
use Rattle.mdp_text.proofs.HeadLines as heads
use Rattle.mdp_cert.specs.{Cert.{PlainClaim, upper, reach, until, reward, mean, witness, is_init_of}, Spelling.{claim_text}, Reading.{claim_at}}
use Rattle.mdp_cert.proofs.{Numbered.{init-found, init-again, free-init}, Claims.{IsRight, claim-found, claim-again, free-claim}}
use Rattle.mdp_check.specs.Initial.{start_of}
use Rattle.mdp_subsystem_bounds.specs.{Cert.{SubsystemClaim, plain_claim}, Spelling.{start_text}, Reading.{subsystem_of, subsystem_at, SubsystemHead, head_from}}

-- ---- the claim

subsystem-is : (p : PlainClaim) (c : SubsystemClaim) → subsystem_of p ≡ Some c → p ≡ plain_claim c
subsystem-is (upper label) c e = absurd cc
subsystem-is (reach dir label) c e = absurd cc
subsystem-is (until dir stay label) c e = absurd cc
subsystem-is (reward dir name label) c e = absurd cc
subsystem-is (mean dir name) c e = absurd cc
subsystem-is (witness dir stay label threshold) c e =
    let is : (let k : SubsystemClaim = record { dir = dir; stay = stay; label = label; threshold = threshold } in k) ≡ c = cc in ap plain_claim is

abbrev kept-claim : ℕ → PlainClaim → Result SubsystemClaim Refusal
kept-claim n claim = or_refused Claim n (subsystem_of claim)

abbrev pub text-of-claim : SubsystemClaim → List ℕ
text-of-claim c = claim_text (plain_claim c)

abbrev pub IsClaim : SubsystemClaim → Type 0
IsClaim c = IsRight (plain_claim c)

subsystem-found : (n : ℕ) (text : List ℕ) (c : SubsystemClaim) → subsystem_at n text ≡ Ok c → (text ≡ text-of-claim c) × IsClaim c
unfolding subsystem_at
subsystem-found n text c e =
    let one = bind_ok (claim_at n text) (kept-claim n) c e in
    let is = subsystem-is one.0 c (found_ok (subsystem_of one.0) Claim n c one.2) in
    subst (λ (p : PlainClaim). (text ≡ claim_text p) × IsRight p) is (claim-found n text one.0 one.1)

subsystem-again : (n : ℕ) (c : SubsystemClaim) → IsClaim c → subsystem_at n (text-of-claim c) ≡ Ok c
unfolding subsystem_at
subsystem-again n c h = ap (λ (r : Result PlainClaim Refusal). r >>= kept-claim n) (claim-again n (plain_claim c) h)

-- ---- the initial state

pub record IsInit (c : SubsystemClaim) (states : ℕ) (init : Init) : Type 0 where
  pub inside : is_init_of (plain_claim c) states init ≡ true
  pub width : IsInitInWidth init

abbrev form-of-init : SubsystemClaim → ℕ → ℕ → List ℕ → Result Init Refusal
form-of-init c = start_at

pub start-line : (c : SubsystemClaim) (states : ℕ) (init : Init) → IsInit c states init → init_text init ≡ start_text (start_of init)
start-line c states Missing h = absurd (let t = h.inside in cc)
start-line c states (Finite s x) h = absurd (let t = h.inside in cc)
start-line c states (Infinite s) h = absurd (let t = h.inside in cc)
start-line c states (Start s) h = refl

pub start-inside : (c : SubsystemClaim) (states : ℕ) (init : Init) → IsInit c states init → start_of init < states
start-inside c states Missing h = absurd (let t = h.inside in cc)
start-inside c states (Finite s x) h = absurd (let t = h.inside in cc)
start-inside c states (Infinite s) h = absurd (let t = h.inside in cc)
start-inside c states (Start s) h = ltb-true s states (and_parts true (ltb s states) h.inside).1

-- ---- the three lines

forms : heads.AreForms subsystem_at form-of-init text-of-claim init_text IsClaim IsInit
forms = record {
  claim_found = subsystem-found;
  claim_again = subsystem-again;
  claim_free = λ c h. free-claim (plain_claim c) h;
  init_found = λ c states n text i e. (let f = init-found (plain_claim c) states n text i e in (f.0, record { inside = f.1; width = f.2 }));
  init_again = λ c states n i limit h. init-again (plain_claim c) states n i h.inside limit h.width;
  init_free = λ c states i limit h. free-init (plain_claim c) states i h.inside limit h.width;
}

abbrev pub IsHead : SubsystemHead → Type 0
IsHead = heads.IsHead subsystem_at form-of-init text-of-claim init_text IsClaim IsInit

abbrev pub lines-of-head : SubsystemHead → List ℕ
lines-of-head = heads.lines-of-head subsystem_at form-of-init text-of-claim init_text IsClaim IsInit

pub head-found : (p : Place) (h : SubsystemHead) (q : Place) → head_from p ≡ Ok (h, q) → heads.FoundHead subsystem_at form-of-init text-of-claim init_text IsClaim IsInit p h q
unfolding head_from
head-found p h q e = heads.head-found subsystem_at form-of-init text-of-claim init_text IsClaim IsInit forms p h q e

pub head-again : (n : ℕ) (h : SubsystemHead) (rest : List ℕ) → IsHead h → head_from (place n (lines-of-head h ++ rest)) ≡ Ok (h, place (n + 1 + 1 + 1) rest)
unfolding head_from
head-again n h rest ok = heads.head-again subsystem_at form-of-init text-of-claim init_text IsClaim IsInit forms n h rest ok
