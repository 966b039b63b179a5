-- What the flat vectors say of the rows.
use Rattle.std.proofs.Common.{◌≡◌, ℕ, ◌+◌, ◌-◌, ◌<◌, List, [], length, get_or, sym, ap, subst, ◌∙◌, arith}
use Rattle.mdp_math.specs.Rational.{ℚ}
use Rattle.mdp_spec.specs.{Mdp.{Entry}, Row.{entries, IsDistribution}}
use Rattle.mdp_rows.specs.{Pieces.{piece}, FlatRows.{rows_in, all_entries, AreRows}, declared.rows.Rows.TheInside.{Inside}}
use Rattle.mdp_rows.proofs.Flat.Pieces.{AreNext, next_places, piece_is, piece_len, length-pieces, entries-piece}

pub rows_len : (r : Inside) (v : List (List Entry)) → rows_in r ≡ v → length v ≡ length r.starts.items - 1
unfolding rows_in
rows_len r v is = ap length (sym is) ∙ length-pieces (all_entries r) r.starts.items

-- a row that is lent
pub record IsLent (r : Inside) (v : List (List Entry)) (i a b : ℕ) (ts : List ℕ) (ps : List ℚ) : Type 0 where
  pub next : AreNext r.starts.items (length r.targets.items) i a b
  pub row : entries (piece ts a b) (piece ps a b) ≡ get_or v i []
  pub same_length : length (piece ts a b) ≡ length (piece ps a b)
  pub distribution : IsDistribution (entries (piece ts a b) (piece ps a b))

row_at : (r : Inside) (v : List (List Entry)) (i a b : ℕ) → AreNext r.starts.items (length r.targets.items) i a b → rows_in r ≡ v → piece (all_entries r) a b ≡ get_or v i []
unfolding rows_in
row_at r v i a b f is = piece_is (all_entries r) r.starts.items (length r.targets.items) i a b v f is

pub lent : (r : Inside) (v : List (List Entry)) (i a b : ℕ) (ts : List ℕ) (ps : List ℚ) → AreRows r → rows_in r ≡ v → i < length v
    → a ≡ get_or r.starts.items i a → b ≡ get_or r.starts.items (i + 1) b → ts ≡ r.targets.items → ps ≡ r.probs.items → IsLent r v i a b ts ps
lent r v i a b ts ps ok is h ea eb et ep =
    let n = rows_len r v is in
    let f = next_places r.starts.items (length r.targets.items) i a b ok.places (omega (arith, n)) ea eb in
    let row : entries (piece ts a b) (piece ps a b) ≡ get_or v i [] = rw (et, ep) (entries-piece r.targets.items r.probs.items a b ∙ row_at r v i a b f is) in
    record {
      next = f;
      row = row;
      same_length = piece_len ts a b (omega (arith, ap length et, f.within)) ∙ sym (piece_len ps a b (omega (arith, ap length ep, f.within, ok.same_length)));
      distribution = rw row (subst (λ (x : List (List Entry)). IsDistribution (get_or x i [])) is (ok.distributions i [] (let k : i < length (rows_in r) = rw is h in k)));
    }
