-- A place in an image and a number of bytes, as a struct.
use Rattle.std.specs.Prelude.{ℕ}
use Rattle.spans.specs.declared.Span.{Span}

abbrev pub span_of : ℕ × ℕ → Span
span_of x = record { place = x.0; length = x.1 }
