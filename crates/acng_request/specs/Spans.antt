-- What spans of a block say of its head, and what is said of a whole block.
use Rattle.std.specs.Prelude.{◌≡◌, ℕ, List, map, Ok, Err, Result, ⊤}
use Rattle.httparse.specs.declared.spans.HeaderSpan.{HeaderSpan}
use Rattle.httparse.specs.declared.spans.RequestSpans.{RequestSpans}
use Rattle.httparse.specs.Spans.{header_bytes, span_bytes}
use Rattle.acng_request.specs.RequestHeads.{Head}
use Rattle.acng_request.specs.declared.got.Request.{Request}
use Rattle.acng_request.specs.declared.got.HeadFault.{HeadFault}
use Rattle.acng_request.specs.declared.head.Refusal.{Refusal}
use Rattle.acng_request.specs.declared.head.Refusal.TheVariants as refusal

-- the head that spans of a block cover
abbrev pub head_at : List ℕ → RequestSpans → List HeaderSpan → Head
head_at block r fields = record {
  method = span_bytes block r.method;
  target = span_bytes block r.path;
  minor = r.version;
  fields = map (header_bytes block) fields;
}

-- the block's request, unless memory was refused; or its refusal
abbrev pub Judges : Result Request HeadFault → Result Request Refusal → Type 0
Judges (Ok r) (Ok q) = q ≡ r
Judges (Ok r) (Err refusal.NoMemory) = ⊤
Judges (Err f) (Err (refusal.Head g)) = g ≡ f
Judges (Ok r) (Err (refusal.Head g)) = ⊥
Judges (Err f) (Ok q) = ⊥
Judges (Err f) (Err refusal.NoMemory) = ⊥
