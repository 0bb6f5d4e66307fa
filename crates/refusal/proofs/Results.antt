-- An answer taken apart: which case it is says whether something was wrong, and what.
use Rattle.std.specs.Prelude.{◌≡◌, Ok, Err, ⊤}
use mathlib.Core.Path.{refl}
use mathlib.Core.Option.{Option, none, some}
use Rattle.refusal.specs.declared.Refusal.{Refusal}
use Rattle.refusal.specs.Refusals.{result_of, judged_of}

pub result_ok : {T : Type 0} (o : Option Refusal) (x : T) {v : T} → result_of o x ≡ Ok v → (o ≡ none) × (x ≡ v)
result_ok none x e = (refl, cc)
result_ok (some f) x e = (cc, cc)

pub result_err : {T : Type 0} (o : Option Refusal) (x : T) {f : Refusal} → result_of o x ≡ Err f → o ≡ some f
result_err none x e = cc
result_err (some g) x e = cc

pub judged_fine : (o : Option Refusal) {u : ⊤} → judged_of o ≡ Ok u → o ≡ none
judged_fine none e = refl
judged_fine (some f) e = cc

pub judged_wrong : (o : Option Refusal) {f : Refusal} → judged_of o ≡ Err f → o ≡ some f
judged_wrong none e = cc
judged_wrong (some g) e = cc
