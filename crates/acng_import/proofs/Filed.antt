-- What came of one found file.
use Rattle.std.proofs.Common.{◌≡◌, ℕ, ◌<◌, ◌≤◌, ◌^◌, Bool, true, false, List, length, nat_lt, nat_le, Some, refl, sym, ap, subst, ◌∙◌}
use Rattle.std.proofs.lemmas.Bool.{lt-ltb, le-ltb}
use Rattle.sha2.specs.Sha256.{sha256}
use Rattle.acng_base.specs.declared.clock.Moment.{Moment}
use Rattle.acng_keeper.specs.Handles.{Handle}
use Rattle.acng_keeper.specs.Kept.{stored}
use Rattle.acng_desk.specs.House.{Plain, House}
use Rattle.acng_desk.specs.Commands.{is_out_of_ids, made}
use Rattle.acng_reach.specs.declared.index.Index.{Index}
use Rattle.acng_import.specs.declared.ending.FileEnd.TheVariants.{TooLong}
use Rattle.acng_import.specs.declared.put.Arrival.{Arrival}
use Rattle.acng_import.specs.Files.{file_at}
use Rattle.acng_import.specs.Fills.{IsFilled}
use Rattle.acng_import.specs.Imports.{AreNamed, Enters, AfterText, AfterRead, OnRoom, FileDid, enter, with_new}
use Rattle.acng_import.specs.Looks.{Shelf, shelf_of}
use Rattle.acng_import.specs.Puts.{Did, ends, worn}

-- ---- the cases

no_room : (b : Bool) (xs : List Index) (now : Moment) (s : Shelf) (file : List ℕ) (d : Did) → b ≡ true → d ≡ worn s.plain
    → OnRoom b xs now s (Some file) d
no_room true xs now s file d is h = h
no_room false xs now s file d is h = cc

room : (b : Bool) (xs : List Index) (now : Moment) (s : Shelf) (file : List ℕ) (d : Did) → b ≡ false
    → AfterRead xs now s.plain.next_id (with_new s) (Some file) d → OnRoom b xs now s (Some file) d
room false xs now s file d is h = h
room true xs now s file d is h = cc

long : (b : Bool) (xs : List Index) (now : Moment) (id : ℕ) (s : Shelf) (file : List ℕ) (d : Did) → b ≡ true → d ≡ ends TooLong s.plain
    → AfterText b xs now id s file d
long true xs now id s file d is h = h
long false xs now id s file d is h = cc

short : (b : Bool) (xs : List Index) (now : Moment) (id : ℕ) (s : Shelf) (file : List ℕ) (d : Did) → b ≡ false
    → Enters xs now id s file d → AfterText b xs now id s file d
short false xs now id s file d is h = h
short true xs now id s file d is h = cc

-- ---- no id was left

pub worn_file : (xs : List Index) (now : Moment) (h : House) (file : List ℕ) (faults : ℕ) (new : Plain) → h.plain.next_id ≡ 2 ^ 63
    → new ≡ h.plain → FileDid xs now (shelf_of h) file faults faults (worn new)
worn_file xs now h file faults new is same = record {
  seen = Some file;
  saw = (refl, refl);
  did = no_room (is_out_of_ids h.plain) xs now (shelf_of h) file (worn new) (ap (nat_le (2 ^ 63)) is) (ap worn same);
}

-- ---- after a body was made

pub same_new : (old new : House) → new.plain ≡ made old.plain → stored new.kept ≡ stored old.kept → shelf_of new ≡ with_new (shelf_of old)
same_new old new plain kept =
    let one : shelf_of new ≡ (record { plain = made old.plain; bodies = new.kept.bodies })
    = ap (λ (p : Plain). record { plain = p; bodies = new.kept.bodies }) plain in
    one ∙ ap (λ s. record { plain = made old.plain; bodies = s.bodies }) kept

pub long_file : (xs : List Index) (now : Moment) (h : House) (file : List ℕ) (old new : ℕ) (d : Did) (p : Plain)
    → is_out_of_ids h.plain ≡ false → new ≡ old → 2 ^ 41 < length file → p ≡ made h.plain → d ≡ ends TooLong p
    → FileDid xs now (shelf_of h) file old new d
long_file xs now h file old new d p ids same much plain is = record {
  seen = Some file;
  saw = (refl, same);
  did = room (is_out_of_ids h.plain) xs now (shelf_of h) file d ids
      (long (nat_lt (2 ^ 41) (length file)) xs now h.plain.next_id (with_new (shelf_of h)) file d (lt-ltb (2 ^ 41) (length file) much)
      (is ∙ ap (ends TooLong) plain));
}

-- the body is all of the file
pub whole_file : (xs : List Index) (now : Moment) (h : House) (file : List ℕ) (old new : ℕ) (d : Did) (s : Shelf) (tells : Bool)
    (a : Arrival) (b : Handle) (id : ℕ) (paths : List (List ℕ)) → is_out_of_ids h.plain ≡ false → new ≡ old
    → IsFilled true tells file a.hash b → a.size ≡ b.size → a.now ≡ now → id ≡ h.plain.next_id → s ≡ with_new (shelf_of h)
    → AreNamed xs a.hash.0 a.size paths → d ≡ enter a id s paths → FileDid xs now (shelf_of h) file old new d
whole_file xs now h file old new d s tells a b id paths ids same f size at is shelf named did =
    let whole = f.whole refl in
    let sized : a.size ≡ length file = size ∙ f.copy.size ∙ ap length whole in
    let few : length file ≤ 2 ^ 41 = subst (λ t. length t ≤ 2 ^ 41) whole f.small in
    record {
      seen = Some file;
      saw = (refl, same);
      did = room (is_out_of_ids h.plain) xs now (shelf_of h) file d ids
          (short (nat_lt (2 ^ 41) (length file)) xs now h.plain.next_id (with_new (shelf_of h)) file d
          (le-ltb (2 ^ 41) (length file) few)
          (record {
            arrival = a;
            paths = paths;
            hashed = sym f.copy.hashed ∙ ap sha256 whole;
            sized = sized;
            at = at;
            named = named;
            did = did ∙ ap (λ n. enter a n s paths) is ∙ ap (λ t. enter a h.plain.next_id t paths) shelf;
          }));
    }

-- ---- the same of other names for the indexes and the files

pub same_file : (xs ys : List Index) (now : Moment) (s : Shelf) (fs gs : List (List ℕ)) (i old new : ℕ) (d : Did) → ys ≡ xs → gs ≡ fs
    → FileDid ys now s (file_at gs i) old new d → FileDid xs now s (file_at fs i) old new d
same_file xs ys now s fs gs i old new d e f h =
    subst (λ zs. FileDid zs now s (file_at fs i) old new d) e (subst (λ hs. FileDid ys now s (file_at hs i) old new d) f h)
