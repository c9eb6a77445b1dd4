-- The item's table where its counts are other ones: it still holds the variables' places. A clause without guards has nothing counted for them.
use Prim.Native.Nat.{ℕ, ◌+◌, ◌*◌, ◌≤◌, ◌<◌}
use mathlib.Core.Path.{◌≡◌, refl, ◌∙◌}
use mathlib.Core.List.{List, []}
use mathlib.Core.Option.{none}
use Rattle.std.specs.Prelude.{None}
use native.Mathlib.Omega.{arith}
use lib.ListN.{length, get_or, replicate, length-replicate, get_or-replicate}
use Rattle.meaning.specs.Bytes.{Bytes, any, when◌then◌else◌}
use Rattle.meaning.specs.Terms.{Half, writer, reader}
use Rattle.meaning.specs.Table.{as_guards, licensed}
use Rattle.meaning.specs.Items.{Body}
use Rattle.load_names.specs.Places.{Place}
use Rattle.load_names.specs.Tables.{VariablesIn}
use Rattle.load_openings.specs.Reading.{half_place, Stands}
use Rattle.load_openings.specs.declared.cursor.Cursor.{Cursor}
use Rattle.load_elements.specs.Elements.{elements_occurrences}
use Rattle.load_items.specs.Rules.{GuardsNamed, GuardsAre}

pub counts_stand : (text rest : Bytes) (from : ℕ) (names item item' : List ℕ) (c : Cursor) (known vars : List Place) → Stands text rest from names item c known vars
    → length item' ≡ 64 → ((i : ℕ) → i < 32 → get_or item' i 0 ≡ get_or item i 0) → ((i : ℕ) → i < 32 → get_or item' (32 + i) 0 ≤ 2)
    → Stands text rest from names item' c known vars
counts_stand text rest from names item item' c known vars st size same few = record {
  part = st.part;
  inside = st.inside;
  names_in = st.names_in;
  names_count = st.names_count;
  variables_in = record {
    size = size;
    few = st.variables_in.few;
    starts = λ n l. same (2 * n) (omega (arith, st.variables_in.few)) ∙ st.variables_in.starts n l;
    lengths = λ n l. same (2 * n + 1) (omega (arith, st.variables_in.few)) ∙ st.variables_in.lengths n l;
    inside = st.variables_in.inside;
    spelled = st.variables_in.spelled;
    counted = few;
  };
  variables_count = st.variables_count;
  compounds_few = st.compounds_few;
}

-- By halves instead of by places.
pub by_half : (f g : ℕ → ℕ) → ((i : ℕ) → i < 32 → f (32 + i) ≡ g (32 + i)) → (h : Half) (m : ℕ) → m < 16 → f (half_place h m) ≡ g (half_place h m)
unfolding half_place
by_half f g same writer m l = same m (omega arith)
by_half f g same reader m l =
    let at : 32 + (16 + m) ≡ 48 + m = omega arith in
    rw at at (same (16 + m) (omega arith))

pub half_few : (rest : Bytes) (places : List Place) (item : List ℕ) → VariablesIn rest places item → (h : Half) (m : ℕ) → m < 16 → get_or item (half_place h m) 0 ≤ 2
unfolding half_place
half_few rest places item v writer m l = v.counted m (omega arith)
half_few rest places item v reader m l =
    let at : 32 + (16 + m) ≡ 48 + m = omega arith in
    rw at at (v.counted (16 + m) (omega arith))

pub none_at : (h : Half) (m : ℕ) → m < 16 → ◌≡◌ {A = ℕ} (get_or (replicate 64 0) (half_place h m) 0) 0
unfolding half_place
none_at writer m l = get_or-replicate {A = ℕ} 64 (32 + m) 0 0 (omega arith)
none_at reader m l = get_or-replicate {A = ℕ} 64 (48 + m) 0 0 (omega arith)

pub no_guards : (rest : Bytes) (from : ℕ) (names : List Bytes) (in_guards licensed : List ℕ) (b : Body) → in_guards ≡ replicate 64 0 → licensed ≡ replicate 16 0
    → b.guards ≡ [] → b.behind ≡ none → GuardsAre rest from names in_guards licensed 0 None b []
unfolding as_guards GuardsNamed elements_occurrences licensed any when◌then◌else◌
no_guards rest from names in_guards table b eg el ge be = record {
  in_table = rw ge refl;
  count_is = refl;
  few = omega arith;
  bar_is = rw be tt;
  bar_behind = tt;
  named = tt;
  table_size = rw eg (length-replicate {A = ℕ} 64 0);
  counted = λ h m l. rw (eg, ge) (none_at h m l);
  licences = record {
    size = rw el (length-replicate {A = ℕ} 16 0);
    licences = λ m l. rw el (get_or-replicate {A = ℕ} 16 m 0 0 l);
  };
}
