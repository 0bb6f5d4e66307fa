-- By the side, from the ends that were seen.
use Rattle.soft.proofs.Parts.{direct_is, support_is, first_is, chosen_is, room_as, wrote_as, scratch_holds, scratch_left_lem}
use Rattle.sight.proofs.Sight.{both_seen}
use Rattle.clause.specs.Ends.{one, two}
use mathlib.Core.Bool.{true, false}
use mathlib.Core.Path.{refl}
use Rattle.soft.proofs.put_pair.Goals as goal

pub put_direct-requires : goal.put_direct-requires
put_direct-requires c =
    let ends = both_seen c.from_first-a.ensures c.turned-b.ensures c.requires.0 c.requires.1 in
    let q = c.in-Direct.is in
    (ends.0.well, room_as (direct_is _ _ _ _ ends.0.is ends.1.is _ _ c.args.side q) c.args.cursor c.requires.5)

pub put_both-requires : goal.put_both-requires
put_both-requires c =
    let ends = both_seen c.from_first-a.ensures c.turned-b.ensures c.requires.0 c.requires.1 in
    let q = c.in-Support.is in
    (ends.0.well, ends.1.well, c.requires.2, room_as (support_is _ _ _ _ ends.0.is ends.1.is _ _ c.args.side q) c.args.cursor c.requires.5)

pub put_support-requires : goal.put_support-requires
put_support-requires c =
    let ends = both_seen c.from_first-a.ensures c.turned-b.ensures c.requires.0 c.requires.1 in
    let q = c.in-First.is in
    (ends.0.well, tt, room_as (first_is _ _ _ _ ends.0.is ends.1.is _ _ c.args.side q) c.args.cursor c.requires.5)

pub put_chosen-requires : goal.put_chosen-requires
put_chosen-requires c =
    let ends = both_seen c.from_first-a.ensures c.turned-b.ensures c.requires.0 c.requires.1 in
    let q = c.in-Literals.is in (
      ends.0.well,
      ends.1.well,
      scratch_holds _ _ one _ ends.0.is c.args.side false q _ c.requires.3,
      scratch_holds _ _ two _ ends.1.is c.args.side false q _ c.requires.4,
      room_as (chosen_is _ _ _ _ ends.0.is ends.1.is _ _ c.args.side false q) c.args.cursor c.requires.5,
    )

pub put_chosen-requires-in-Score : goal.put_chosen-requires-in-Score
put_chosen-requires-in-Score c =
    let ends = both_seen c.from_first-a.ensures c.turned-b.ensures c.requires.0 c.requires.1 in
    let q = c.in-Score.is in (
      ends.0.well,
      ends.1.well,
      scratch_holds _ _ one _ ends.0.is c.args.side true q _ c.requires.3,
      scratch_holds _ _ two _ ends.1.is c.args.side true q _ c.requires.4,
      room_as (chosen_is _ _ _ _ ends.0.is ends.1.is _ _ c.args.side true q) c.args.cursor c.requires.5,
    )

pub returns-in-Direct : goal.returns-in-Direct
returns-in-Direct c =
    let ends = both_seen c.from_first-a.ensures c.turned-b.ensures c.requires.0 c.requires.1 in
    let q = c.in-Direct.is in
    (wrote_as (direct_is _ _ _ _ ends.0.is ends.1.is _ _ c.args.side q) c.put_direct.ensures, rw q refl, rw q refl)

pub returns-in-Support : goal.returns-in-Support
returns-in-Support c =
    let ends = both_seen c.from_first-a.ensures c.turned-b.ensures c.requires.0 c.requires.1 in
    let q = c.in-Support.is in
    (wrote_as (support_is _ _ _ _ ends.0.is ends.1.is _ _ c.args.side q) c.put_both.ensures, rw q refl, rw q refl)

pub returns-in-First : goal.returns-in-First
returns-in-First c =
    let ends = both_seen c.from_first-a.ensures c.turned-b.ensures c.requires.0 c.requires.1 in
    let q = c.in-First.is in
    (wrote_as (first_is _ _ _ _ ends.0.is ends.1.is _ _ c.args.side q) c.put_support.ensures, rw q refl, rw q refl)

pub returns-in-Literals : goal.returns-in-Literals
returns-in-Literals c =
    let ends = both_seen c.from_first-a.ensures c.turned-b.ensures c.requires.0 c.requires.1 in
    let q = c.in-Literals.is in
    let w = c.put_chosen.ensures in (
      wrote_as (chosen_is _ _ _ _ ends.0.is ends.1.is _ _ c.args.side false q) w.0,
      scratch_left_lem _ _ _ _ ends.0.is c.args.side false q _ _ w.1,
      scratch_left_lem _ _ _ _ ends.1.is c.args.side false q _ _ w.2,
    )

pub returns-in-Score : goal.returns-in-Score
returns-in-Score c =
    let ends = both_seen c.from_first-a.ensures c.turned-b.ensures c.requires.0 c.requires.1 in
    let q = c.in-Score.is in
    let w = c.put_chosen-in-Score.ensures in (
      wrote_as (chosen_is _ _ _ _ ends.0.is ends.1.is _ _ c.args.side true q) w.0,
      scratch_left_lem _ _ _ _ ends.0.is c.args.side true q _ _ w.1,
      scratch_left_lem _ _ _ _ ends.1.is c.args.side true q _ _ w.2,
    )
