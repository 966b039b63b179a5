-- What a test of each, or of some, element of a list says, and of one of two.
use Rattle.std.proofs.Common.{◌≡◌, ◌⊎◌, inl, inr, Bool, true, false, true≢false, ◌||◌, List, [], ◌∷◌, refl, sym}
use Rattle.std.proofs.{lemmas.List.Elements.{All-from_recursion, recursion_from_All}, lemmas.List.Folds.{Any-from_list_any, list_any-from_Any}}
use Rattle.std.specs.List.{All, Any, AllByRecursion, list_all, list_any}
use Rattle.mdp_math.proofs.Booleans.{and-parts, and-both}

pub or-parts : (a b : Bool) → (a || b) ≡ true → (a ≡ true) ⊎ (b ≡ true)
or-parts true b e = inl refl
or-parts false b e = inr e

pub or-first : (a b : Bool) → a ≡ true → (a || b) ≡ true
or-first true b e = refl
or-first false b e = absurd (true≢false (sym e))

pub or-second : (a b : Bool) → b ≡ true → (a || b) ≡ true
or-second true b e = refl
or-second false b e = e

each_passed : {A : Type 0} (p : A → Bool) (P : A → Type 0) → ((x : A) → p x ≡ true → P x) → (xs : List A) → list_all p xs ≡ true → AllByRecursion P xs
each_passed p P means [] e = tt
each_passed p P means (x ∷ xs) e = let h = and-parts (p x) (list_all p xs) e in (means x h.0, each_passed p P means xs h.1)

each_passes : {A : Type 0} (p : A → Bool) (P : A → Type 0) → ((x : A) → P x → p x ≡ true) → (xs : List A) → AllByRecursion P xs → list_all p xs ≡ true
each_passes p P means [] h = refl
each_passes p P means (x ∷ xs) h = and-both (p x) (list_all p xs) (means x h.0) (each_passes p P means xs h.1)

pub all_passed : {A : Type 0} (p : A → Bool) (P : A → Type 0) → ((x : A) → p x ≡ true → P x) → (xs : List A) → list_all p xs ≡ true → All P xs
all_passed p P means xs e = All-from_recursion P xs (each_passed p P means xs e)

pub all_pass : {A : Type 0} (p : A → Bool) (P : A → Type 0) → ((x : A) → P x → p x ≡ true) → (xs : List A) → All P xs → list_all p xs ≡ true
all_pass p P means xs h = each_passes p P means xs (recursion_from_All P xs h)

pub some_passed : {A : Type 0} (p : A → Bool) (P : A → Type 0) → ((x : A) → p x ≡ true → P x) → (xs : List A) → list_any p xs ≡ true → Any P xs
some_passed p P means xs e = let a = Any-from_list_any p xs e in (a.0, a.1, a.2, a.3, means a.1 a.4)

pub some_passes : {A : Type 0} (p : A → Bool) (P : A → Type 0) → ((x : A) → P x → p x ≡ true) → (xs : List A) → Any P xs → list_any p xs ≡ true
some_passes p P means xs a = list_any-from_Any p xs (a.0, a.1, a.2, a.3, means a.1 a.4)
