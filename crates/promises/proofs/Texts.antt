-- The texts of the metadata.
use Prim.Native.Nat.{ℕ, ◌+◌, ◌-◌, ◌≤◌, ◌<◌}
use mathlib.Core.Path.{◌≡◌, refl, sym, ap, subst, ◌∙◌}
use mathlib.Core.Bool.{Bool, true, false}
use mathlib.Core.List.{List}
use native.Mathlib.Omega.{arith}
use lib.ListN.{length, get_or, take, drop, length-drop}
use lib.Seq.{drop-drop, get_or-drop}
use lib.Dec.{ltb}
use borrow.Author.Tests.{le-leb, ltb-true, ltb-false}
use Rattle.std.specs.Prelude.{Some, None, Result, Ok, Err}
use Rattle.refusal.specs.declared.Refusal.{Refusal}
use Rattle.text.specs.Utf8.{well_formed}
use Rattle.metadata.specs.Metadata.{metadata_of}
use Rattle.metadata.proofs.DecodedLaws.{database_text}
use Rattle.entries.specs.declared.Described.{Described}
use Rattle.entries.proofs.EntryLaws.{There, language_there, description_there, language_absent, description_absent}
use Rattle.opening.specs.Opening.{open_of}
use Rattle.opening.specs.declared.Reader.{Reader}
use Rattle.opening.proofs.OpeningLaws.{is_open, open_fits}
use Rattle.handle.proofs.HandleLaws.{fit}
use Rattle.about.specs.About.{wanted_of, text_in, text_of}
use Rattle.about.specs.declared.Wanted.{Wanted}
use Rattle.about.specs.declared.Wanted.TheVariants as wanted
use Rattle.promises.specs.Parts.{Gives, Counted, Has, MetadataText}

module _ (s : List ℕ) (bytes : (i : ℕ) → get_or s i 0 < 256) where
  -- the metadata of an opened image was decoded from its section, which starts past the marker's 14 bytes
  pub record Section (r : Reader) : Type 0 where
    pub fields : metadata_of (drop r.handle.meta s) ≡ Some r.metadata
    pub past : 14 ≤ r.handle.meta
    pub whole : r.handle.meta ≤ length s

  section : (r : Reader) → open_of s ≡ Ok r → Section r
  section r e =
      let p = is_open s e in
      let f = fit r.handle (length s) (open_fits s bytes e) in
      record { fields = rw p.reader p.passes.decoded.fields; past = omega (arith, f.marked); whole = f.whole }

  module _ (r : Reader) (x : Section r) where
    abbrev rest : List ℕ
    rest = drop r.handle.meta s

    rest_bytes : (i : ℕ) → get_or rest i 0 < 256
    rest_bytes i = rw get_or-drop (bytes (r.handle.meta + i))

    there : (w : Wanted) (i : ℕ) → Counted r w i → There rest (wanted_of rest r.metadata w i)
    there wanted.DatabaseType i c =
        record { from = r.metadata.database.from; size = r.metadata.database.size; is = refl; text = database_text rest rest_bytes x.fields }
    there wanted.Language i c = language_there rest rest_bytes x.fields i c
    there wanted.DescriptionLanguage i c = (description_there rest rest_bytes x.fields i c).0
    there wanted.Description i c = (description_there rest rest_bytes x.fields i c).1

  not_less : (i n : ℕ) → (i < n → ⊥) → n ≤ i
  not_less i n f = by (ltb i n) refl
    where
      by : (t : Bool) → ltb i n ≡ t → n ≤ i
      by true e = absurd (f (ltb-true i n e))
      by false e = ltb-false i n e

  absent : (r : Reader) (w : Wanted) (i : ℕ) → (Counted r w i → ⊥) → wanted_of (drop r.handle.meta s) r.metadata w i ≡ None
  absent r wanted.DatabaseType i n = absurd (n tt)
  absent r wanted.Language i n = language_absent _ r.metadata i (not_less i r.metadata.languages.size n)
  absent r wanted.DescriptionLanguage i n =
      ap (λ (d : Described). d.language) (description_absent _ r.metadata i (not_less i r.metadata.description.size n))
  absent r wanted.Description i n =
      ap (λ (d : Described). d.text) (description_absent _ r.metadata i (not_less i r.metadata.description.size n))

  module _ (w : Wanted) (i : ℕ) where
    some : (it : Has s w i) → MetadataText s w i it (text_of s w i)
    unfolding text_of
    some it =
        let r = it.reader in
        let x = section r it.opens in
        let t = there r x w i it.counted in
        let rest : List ℕ = drop r.handle.meta s in
        let n : length rest ≡ length s - r.handle.meta = length-drop r.handle.meta s in
        let inside : t.from + t.size ≤ length rest = t.text.inside in
        record {
          from = t.from;
          size = t.size;
          lies = t.is;
          is = simp (it.opens, t.is, le-leb (t.from + t.size) (length (drop r.handle.meta s)) inside);
          inside = omega (arith, n, inside, x.whole);
          utf8 = subst (λ (l : List ℕ). well_formed (take t.size l) ≡ true) (drop-drop t.from r.handle.meta s) t.text.utf8;
        }

    nothing : (Has s w i → ⊥) → text_of s w i ≡ (0, 0)
    unfolding text_of
    nothing n = by (open_of s) refl
      where
        by : (x : Result Reader Refusal) → open_of s ≡ x → text_in s w i x ≡ (0, 0)
        by (Ok r) e = simp (absent r w i (λ c. n (record { reader = r; opens = e; counted = c })))
        by (Err why) e = refl

    -- A TEXT OF THE METADATA
    pub text : Gives (Has s w i) (MetadataText s w i) (text_of s w i)
    text =
        record {
          some = some;
          none = (
            (λ e it.
                let m = some it in
                let z : it.reader.handle.meta + m.from ≡ 0 = ap (λ (x : ℕ × ℕ). x.0) (sym m.is ∙ e) in
                omega (arith, (section it.reader it.opens).past)),
            nothing,
          );
        }
