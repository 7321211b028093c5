-- The languages and the descriptions of metadata that was decoded: each is there, and a text of the section.
use Prim.Native.Nat.{ℕ, ◌+◌, ◌*◌, ◌≤◌, ◌<◌}
use mathlib.Core.Path.{◌≡◌, refl, ap, ◌∙◌}
use mathlib.Core.List.{List}
use native.Mathlib.Omega.{arith}
use lib.ListN.{get_or}
use borrow.Author.Tests.{lt-ltb, le-ltb}
use Rattle.std.specs.Prelude.{Option, Some, None}
use Rattle.fields.specs.Fields.{text_at, many, begin, texts_at}
use Rattle.fields.specs.declared.Got.{Got}
use Rattle.fields.proofs.FieldLaws.{many_wrong, many_any, many_join}
use Rattle.fields.proofs.ValueLaws.{Text, Texts}
use Rattle.fields.proofs.TextsLaws.{again}
use Rattle.metadata.specs.Metadata.{nothing_charged, metadata_of}
use Rattle.metadata.specs.declared.Metadata.{Metadata}
use Rattle.metadata.proofs.DecodedLaws.{languages_texts, description_texts}
use Rattle.entries.specs.Entries.{part, span_of, last_of, language_of, description_of}
use Rattle.metadata.specs.declared.Part.{Part}

-- a text of the section, UTF-8
pub record There (s : List ℕ) (x : Option Part) : Type 0 where
  pub from : ℕ
  pub size : ℕ
  pub is : x ≡ Some (part from size)
  pub text : Text s size from

module _ (s : List ℕ) (bytes : (i : ℕ) → get_or s i 0 < 256) where
  there : (n p : ℕ) → Texts s n p → (i : ℕ) → i < n → There s (last_of s p (i + 1))
  there n p t i h =
      let a = again s bytes nothing_charged refl n p t i h in
      record { from = a.last.place; size = a.last.value; is = ap span_of a.is; text = a.text }

  module _ {m : Metadata} (e : metadata_of s ≡ Some m) (i : ℕ) where
    pub language_there : i < m.languages.size → There s (language_of s m i)
    unfolding language_of
    language_there h =
        rw (lt-ltb i m.languages.size h) (there m.languages.size m.languages.from (languages_texts s bytes e) i h)

    pub description_there : i < m.description.size → There s (description_of s m i).language × There s (description_of s m i).text
    unfolding description_of
    description_there h =
        let t = description_texts s bytes e in
        let p = m.description.from in
        let two : i * 2 + 1 + 1 ≡ i * 2 + 2 = omega arith in
        rw (lt-ltb i m.description.size h)
        (there (m.description.size * 2) p t (i * 2) (omega arith), rw (← two) (there (m.description.size * 2) p t (i * 2 + 1) (omega arith)))

-- past the last there is none, in any metadata
module _ (s : List ℕ) (m : Metadata) (i : ℕ) where
  pub language_absent : m.languages.size ≤ i → language_of s m i ≡ None
  unfolding language_of
  language_absent h = simp (le-ltb i m.languages.size h)

  pub description_absent : m.description.size ≤ i → description_of s m i ≡ record { language = None; text = None }
  unfolding description_of
  description_absent h = simp (le-ltb i m.description.size h)

-- texts in two runs
module _ (s : List ℕ) (from n more : ℕ) where
  joined : {x : Option Got} → texts_at s n from nothing_charged ≡ x → last_of s from (n + more) ≡ span_of (many (text_at s) more x)
  joined e = ap span_of (many_join (text_at s) n more (Some (begin from nothing_charged)) ∙ ap (many (text_at s) more) e)

  pub last_none : texts_at s n from nothing_charged ≡ None → last_of s from (n + more) ≡ None
  last_none e = joined e ∙ ap span_of (many_wrong (text_at s) more)

  pub last_then : {x : Got} {y : Option Got} → 0 < more → texts_at s n from nothing_charged ≡ Some x → texts_at s more x.next x.charge ≡ y
      → last_of s from (n + more) ≡ span_of y
  last_then {x} h e g = joined e ∙ ap span_of (many_any (text_at s) more x.value x.place 0 0 x.next x.charge h ∙ g)
