-- What the worth of a choice depends on: a row that is lent leads to its targets, and a written sum depends on the values there.
use Rattle.std.proofs.Common.{◌≡◌, ℕ, ◌<◌, inl, Bool, true, ◌||◌, ◌==◌, List, [], ◌∷◌, refl, sym, ◌∙◌, ap, subst, eq-eqb}
use Rattle.std.proofs.lemmas.List.Elements.{All-from_recursion}
use Rattle.std.specs.List.{All, AllByRecursion}
use Rattle.mdp_math.specs.Rational.{ℚ}
use Rattle.mdp_math.proofs.Booleans.{or-true}
use Rattle.mdp_spec.specs.{Mdp.{Entry}, Row.{entries}}
use Rattle.mdp_rows.specs.Preds.{is_among}
use Rattle.mdp_elim.proofs.Others.{written_sum-agree}
use Rattle.mdp_policy_iteration.specs.{Problem.{Problem, Choice, go, plain, count, choice_at}, Reads.{AgreeAt, LeadsTo, Reads}}

-- ---- a row that is lent

-- these nodes hold the entry's target
abbrev pub HoldTarget : List ℕ → Entry → Type 0
HoldTarget nodes e = is_among e.target nodes ≡ true

among_by : (nodes ts : List ℕ) (ps : List ℚ) → ((t : ℕ) → is_among t ts ≡ true → is_among t nodes ≡ true) → AllByRecursion (HoldTarget nodes) (entries ts ps)
among_by nodes [] ps hold = tt
among_by nodes (t ∷ ts) [] hold = tt
among_by nodes (t ∷ ts) (p ∷ ps) hold = (
  hold t (ap (λ (b : Bool). b || is_among t ts) (eq-eqb t t refl)),
  among_by nodes ts ps (λ u h. hold u (ap (λ (b : Bool). (t == u) || b) h ∙ or-true (t == u))),
)

pub entries-among : (ts : List ℕ) (ps : List ℚ) → All (HoldTarget ts) (entries ts ps)
entries-among ts ps = All-from_recursion (HoldTarget ts) (entries ts ps) (among_by ts ts ps (λ t h. h))

-- ---- what a choice reads

module _ (p : Problem) (s c : ℕ) (nodes : List ℕ) (below : All (λ t. t < count p) nodes) where
  pub reads-by : (choice : Choice) → choice_at p s c ≡ choice → LeadsTo p nodes choice.move
      → ((x y : List ℚ) → AgreeAt p nodes x y → choice.written x ≡ choice.written y) → Reads p s c nodes
  reads-by choice is leads same = record {
    in_range = below;
    row = subst (λ (k : Choice). LeadsTo p nodes k.move) (sym is) leads;
    worth = λ x y agree. ap (λ (k : Choice). k.written x) is ∙ same x y agree ∙ sym (ap (λ (k : Choice). k.written y) is);
  }

  -- one that is computed with as it stands, by a row whose targets are all among the nodes
  pub reads-plain : (candidate : Bool) (r : ℚ) (row : List Entry) → choice_at p s c ≡ plain candidate (go r row) → All (HoldTarget nodes) row → Reads p s c nodes
  reads-plain candidate r row is held =
      reads-by (plain candidate (go r row)) is (λ k d l. inl (held k d l)) (λ x y agree. written_sum-agree x y r row (λ k d l. agree.listed _ (held k d l)))

  -- by the row that is lent with these targets
  pub reads-lent : (candidate : Bool) (r : ℚ) (row : List Entry) (ps : List ℚ) → choice_at p s c ≡ plain candidate (go r row) → entries nodes ps ≡ row → Reads p s c nodes
  reads-lent candidate r row ps is lent = reads-plain candidate r row is (subst (λ (row : List Entry). All (HoldTarget nodes) row) lent (entries-among nodes ps))
