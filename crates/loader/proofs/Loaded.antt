-- What `load` leaves in the scratch holds the definitions' job, and its names and variables lead to their bytes in the text: laws of the image.
use Prim.Native.Nat.{ℕ, ◌≤◌}
use mathlib.Core.Path.{◌≡◌}
use mathlib.Core.List.{List}
use native.Mathlib.Omega.{arith}
use lib.ListN.{length}
use Rattle.meaning.specs.Bytes.{Bytes}
use Rattle.meaning.specs.Terms.{Job}
use Rattle.meaning.specs.Items.{reading, job}
use Rattle.meaning.specs.State.{Room}
use Rattle.term.specs.Jobs.{HoldsJob}
use Rattle.term.specs.Layout.{need_of}
use Rattle.term.specs.Spellings.{HoldsText}
use Rattle.load_names.specs.Places.{spellings}
use Rattle.load_image.specs.Image.{text_names, image}
use Rattle.load_image.proofs.Loaded.{image_holds}
use Rattle.load_image.proofs.TextHolds.{image_holds_text}
use Rattle.loader.specs.Loading.{prepared}
use Rattle.loader.proofs.Preparing.{prepared_is}

module _ (text : Bytes) (j : Job) (figures : Room) (s s' : List ℕ) (inside : need_of figures ≤ length s) (h : reading text ≡ job j)
    (e : s' ≡ image text (prepared figures s)) where
  pub loaded_holds : HoldsJob s' (spellings (text_names text)) j
  loaded_holds =
      let p = prepared_is figures s inside in
      rw e (image_holds text j (prepared figures s) h (omega (arith, p.only.size)) (λ w l m. p.tables w l (omega arith)))

  pub loaded_holds_text : HoldsText s' text (spellings (text_names text)) j
  loaded_holds_text =
      let p = prepared_is figures s inside in
      rw e (image_holds_text text j (prepared figures s) h (omega (arith, p.only.size)))
