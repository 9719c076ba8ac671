-- The test by which a map tells names apart is that of their bytes.
use Rattle.std.proofs.Common.{◌≡◌, ℕ, ◌-◌, ◌==◌, List, Decides, length, take, replicate, refl, sym, ap, ◌∙◌, bytes_eq}
use Rattle.std.proofs.Math.Seq.{take-append_seam}
use Rattle.std.proofs.lemmas.Bool.{and_parts, and_from, eqb-true, eq-eqb}
use Rattle.std.proofs.lemmas.Bool.Decides.{same_from_decides, Decides-eqb}
use Rattle.std.proofs.lemmas.Slice.Eq.{bytes_eq-Decides, slice_eq-Decides}
use Rattle.std.specs.Cmp.Lexicographic.{pointwise}
use Rattle.paris_names.specs.contracts.names.NamePartialEq.TheImpl.{ghosts}
use Rattle.paris_names.specs.Names.{name_buffer}

-- a name's bytes come back from its buffer
padded_injective : (a b : List ℕ) → name_buffer a ≡ name_buffer b → length a ≡ length b → a ≡ b
padded_injective a b same level =
    sym (take-append_seam a (replicate (16 - length a) 0)) ∙ ap (take (length a)) same ∙ ap (λ (n : ℕ). take n (name_buffer b)) level ∙ take-append_seam b (replicate (16 - length b) 0)

buffers_Decides : (a b : List ℕ) → Decides (pointwise ◌==◌ (name_buffer a) (name_buffer b)) (name_buffer a ≡ name_buffer b)
buffers_Decides a b = slice_eq-Decides Decides-eqb (name_buffer a) (name_buffer b) (pointwise ◌==◌ (name_buffer a) (name_buffer b)) refl

name_eq-Decides : (a b : List ℕ) → Decides ((ghosts).eq a b) (b ≡ a)
name_eq-Decides a b = (
  λ h. (let parts = and_parts (pointwise ◌==◌ (name_buffer a) (name_buffer b)) (length a == length b) h in
      sym (padded_injective a b ((buffers_Decides a b).0 parts.0) (eqb-true (length a) (length b) parts.1))),
  λ e. and_from (pointwise ◌==◌ (name_buffer a) (name_buffer b)) (length a == length b) ((buffers_Decides a b).1 (ap name_buffer (sym e))) (eq-eqb (length a) (length b) (ap length (sym e))),
)

pub name_eq : (a b : List ℕ) → (ghosts).eq a b ≡ bytes_eq b a
name_eq a b = same_from_decides ((ghosts).eq a b) (bytes_eq b a) (name_eq-Decides a b) (bytes_eq-Decides b a)
