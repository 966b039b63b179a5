-- A source and a sink of a call, before and after it.
use Rattle.std.specs.Prelude.{◌≡◌, ℕ, Bool, true, false, List, Option, Some}
use Rattle.mdp_edge.specs.Faults.{FaultCounted}

pub record Input : Type 1 where
  -- the bytes that it has left, where it tells them
  pub before : Option (List ℕ)
  pub after : Option (List ℕ)
  pub faults_before : ℕ
  pub faults_after : ℕ
  -- that it is as before in every respect
  pub same : Type 0

-- a source, by what it tells
abbrev pub input : {S : Type 0} → (S → Option (List ℕ)) → (S → ℕ) → S → S → Input
input left faults old new = record { before = left old; after = left new; faults_before = faults old; faults_after = faults new; same = new ≡ old }

-- it failed in this call
abbrev pub HasFailed : Input → Type 0
HasFailed x = FaultCounted x.faults_before x.faults_after

-- it didn't
abbrev pub IsStill : Input → Type 0
IsStill x = x.faults_after ≡ x.faults_before

-- these are the bytes that it told, if it is read
abbrev pub Told : Bool → Input → List ℕ → Type 0
Told true x bytes = x.before ≡ Some bytes
Told false x bytes = Unit {0}

pub record Output : Type 0 where
  -- the bytes that it has taken, where it tells them
  pub taken_before : Option (List ℕ)
  pub taken_after : Option (List ℕ)
  -- how many of them are settled
  pub settled_before : Option ℕ
  pub settled_after : Option ℕ
  pub faults_before : ℕ
  pub faults_after : ℕ

-- a sink, by what it tells
abbrev pub output : {K : Type 0} → (K → Option (List ℕ)) → (K → Option ℕ) → (K → ℕ) → K → K → Output
output taken settled faults old new = record {
  taken_before = taken old;
  taken_after = taken new;
  settled_before = settled old;
  settled_after = settled new;
  faults_before = faults old;
  faults_after = faults new;
}
