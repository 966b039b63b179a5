-- Targets of a row and its entries; edges the other way round; states that are listed.
use Rattle.std.proofs.Common.{◌≡◌, ℕ, Bool, true, ◌||◌, ◌&&◌, ◌==◌, List, [], ◌∷◌, length, get_or, refl, sym, ap, ◌∙◌, arith, replicate, Option, Some, None, is_none}
use Rattle.std.proofs.lemmas.Bool.{false≢true}
use Rattle.std.specs.List.{list_any}
use Rattle.mdp_math.specs.Rational.{ℚ}
use Rattle.mdp_spec.specs.Row.{entries}
use Rattle.mdp_rows.specs.Preds.{is_among, leads_to}
use Rattle.mdp_graph.specs.Sets.{can_enter}
use Rattle.mdp_graph.proofs.EdgeFacts.{AreAdded, before, all_edges, edges_are}
use Rattle.mdp_parts.specs.Targets.{AreReversed}

pub leads-as-among : (ts : List ℕ) (ps : List ℚ) (t : ℕ) → length ts ≡ length ps → leads_to t (entries ts ps) ≡ is_among t ts
leads-as-among [] ps t e = refl
leads-as-among (x ∷ ts) [] t e = absurd (omega arith)
leads-as-among (x ∷ ts) (p ∷ ps) t e = ap (λ b. (x == t) || b) (leads-as-among ts ps t (omega arith))

pub any-as-enters : (set : ℕ → Bool) (ts : List ℕ) (ps : List ℚ) → length ts ≡ length ps → can_enter set (entries ts ps) ≡ list_any set ts
any-as-enters set [] ps e = refl
any-as-enters set (t ∷ ts) [] e = absurd (omega arith)
any-as-enters set (t ∷ ts) (p ∷ ps) e = ap (λ b. set t || b) (any-as-enters set ts ps (omega arith))

pub reversed_are : (edges back : List (List ℕ)) (n s : ℕ) → length edges ≡ n → AreAdded (replicate n []) back (before s (λ x t. is_among t (get_or edges x []))) → s ≡ n → AreReversed edges back
reversed_are edges back n s count was e = record {
  edges_back = (let a = all_edges n s (λ x t. is_among t (get_or edges x [])) back was e in record {
    count = a.count
        ∙ sym count;
    below = λ x t h m. (let l = a.below x t (omega (arith, h, count)) m in omega (arith, l, count));
  });
  same = λ x t hx ht. edges_are n s (λ x t. is_among t (get_or edges x [])) back was e x t (omega (arith, hx, count)) (omega (arith, ht, count));
}

pub listed_none : (e : Bool) (o : Option ℕ) → (is_none o && e) ≡ true → (o ≡ None) × (e ≡ true)
listed_none e None h = (refl, h)
listed_none e (Some r) h = absurd (false≢true h)
