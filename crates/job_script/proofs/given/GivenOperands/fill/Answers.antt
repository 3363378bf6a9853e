use Rattle.std.specs.Prelude.{codes}
use Rattle.job_script.specs.declared.rows.Row.TheVariants as row
use Rattle.job_script.proofs.Facts.{at_key, at_place, extent_number, extent_pair, a_byte, some_numbers, some_names, some_locations, some_bytes, gives_number, gives_list, shares_number, shares_list, attach_apart}
use Rattle.job_script.proofs.given.GivenOperands.fill.Goals as goal

pub region-requires-clause-below : goal.region-requires-clause-below
region-requires-clause-below c = λ text e. let k = at_key c.args.self.now c.requires.read row.Region c.in-Region.is (codes "BELOW") text e in record { digits = k.of_kind; range = k.within }

pub region-requires-clause-above : goal.region-requires-clause-above
region-requires-clause-above c = λ text e. let k = at_key c.args.self.now c.requires.read row.Region c.in-Region.is (codes "ABOVE") text e in record { digits = k.of_kind; range = k.within }

pub region-requires-clause-fill : goal.region-requires-clause-fill
region-requires-clause-fill c = λ text e. let k = at_key c.args.self.now c.requires.read row.Region c.in-Region.is (codes "FILL") text e in a_byte text k.of_kind

pub obtain-requires-clause-lengths : goal.obtain-requires-clause-lengths
obtain-requires-clause-lengths c = λ text e. let k = at_key c.args.self.now c.requires.read row.GetmainFixed c.in-GetmainFixed.is (codes "LV") text e in extent_number text k.of_kind k.within

pub obtain-requires-clause-area : goal.obtain-requires-clause-area
obtain-requires-clause-area c = λ text e. let k = at_key c.args.self.now c.requires.read row.GetmainFixed c.in-GetmainFixed.is (codes "A") text e in k.of_kind

pub obtain-requires-in-GetmainFixedPlaced-clause-lengths : goal.obtain-requires-in-GetmainFixedPlaced-clause-lengths
obtain-requires-in-GetmainFixedPlaced-clause-lengths c = λ text e. let k = at_key c.args.self.now c.requires.read row.GetmainFixedPlaced c.in-GetmainFixedPlaced.is (codes "LV") text e in extent_number text k.of_kind k.within

pub obtain-requires-in-GetmainFixedPlaced-clause-area : goal.obtain-requires-in-GetmainFixedPlaced-clause-area
obtain-requires-in-GetmainFixedPlaced-clause-area c = λ text e. let k = at_key c.args.self.now c.requires.read row.GetmainFixedPlaced c.in-GetmainFixedPlaced.is (codes "A") text e in k.of_kind

pub obtain-requires-in-GetmainVariable-clause-lengths : goal.obtain-requires-in-GetmainVariable-clause-lengths
obtain-requires-in-GetmainVariable-clause-lengths c = λ text e. let k = at_key c.args.self.now c.requires.read row.GetmainVariable c.in-GetmainVariable.is (codes "LV") text e in extent_pair text k.of_kind k.within

pub obtain-requires-in-GetmainVariable-clause-area : goal.obtain-requires-in-GetmainVariable-clause-area
obtain-requires-in-GetmainVariable-clause-area c = λ text e. let k = at_key c.args.self.now c.requires.read row.GetmainVariable c.in-GetmainVariable.is (codes "A") text e in k.of_kind

pub obtain-requires-in-GetmainVariablePlaced-clause-lengths : goal.obtain-requires-in-GetmainVariablePlaced-clause-lengths
obtain-requires-in-GetmainVariablePlaced-clause-lengths c = λ text e. let k = at_key c.args.self.now c.requires.read row.GetmainVariablePlaced c.in-GetmainVariablePlaced.is (codes "LV") text e in extent_pair text k.of_kind k.within

pub obtain-requires-in-GetmainVariablePlaced-clause-area : goal.obtain-requires-in-GetmainVariablePlaced-clause-area
obtain-requires-in-GetmainVariablePlaced-clause-area c = λ text e. let k = at_key c.args.self.now c.requires.read row.GetmainVariablePlaced c.in-GetmainVariablePlaced.is (codes "A") text e in k.of_kind

pub obtain-requires-in-StorageObtain-clause-lengths : goal.obtain-requires-in-StorageObtain-clause-lengths
obtain-requires-in-StorageObtain-clause-lengths c = λ text e. let k = at_key c.args.self.now c.requires.read row.StorageObtain c.in-StorageObtain.is (codes "LENGTH") text e in record { of_kind = k.of_kind; within = k.within }

pub obtain-requires-in-StorageObtain-clause-area : goal.obtain-requires-in-StorageObtain-clause-area
obtain-requires-in-StorageObtain-clause-area c = λ text e. let k = at_key c.args.self.now c.requires.read row.StorageObtain c.in-StorageObtain.is (codes "ADDR") text e in k.of_kind

pub obtain_list-requires-clause-lengths : goal.obtain_list-requires-clause-lengths
obtain_list-requires-clause-lengths c = λ text e. let k = at_key c.args.self.now c.requires.read row.GetmainList c.in-GetmainList.is (codes "LA") text e in some_numbers text k.of_kind k.within

pub obtain_list-requires-clause-areas : goal.obtain_list-requires-clause-areas
obtain_list-requires-clause-areas c = λ text e. let k = at_key c.args.self.now c.requires.read row.GetmainList c.in-GetmainList.is (codes "A") text e in some_names text k.of_kind k.within

pub release-requires-clause-len : goal.release-requires-clause-len
release-requires-clause-len c = λ text e. let k = at_key c.args.self.now c.requires.read row.FreemainOrWhole c.in-FreemainOrWhole.is (codes "LV") text e in record { digits = k.of_kind; range = k.within }

pub release-requires-clause-address : goal.release-requires-clause-address
release-requires-clause-address c = λ text e. let k = at_key c.args.self.now c.requires.read row.FreemainOrWhole c.in-FreemainOrWhole.is (codes "A") text e in record { address = k.of_kind; range = k.within }

pub release-requires-in-FreemainPlace-clause-len : goal.release-requires-in-FreemainPlace-clause-len
release-requires-in-FreemainPlace-clause-len c = λ text e. let k = at_key c.args.self.now c.requires.read row.FreemainPlace c.in-FreemainPlace.is (codes "LV") text e in record { digits = k.of_kind; range = k.within }

pub release-requires-in-FreemainPlace-clause-address : goal.release-requires-in-FreemainPlace-clause-address
release-requires-in-FreemainPlace-clause-address c = λ text e. let k = at_key c.args.self.now c.requires.read row.FreemainPlace c.in-FreemainPlace.is (codes "A") text e in record { address = k.of_kind; range = k.within }

pub release-requires-in-StorageRelease-clause-len : goal.release-requires-in-StorageRelease-clause-len
release-requires-in-StorageRelease-clause-len c = λ text e. let k = at_key c.args.self.now c.requires.read row.StorageRelease c.in-StorageRelease.is (codes "LENGTH") text e in record { digits = k.of_kind; range = k.within }

pub release-requires-in-StorageRelease-clause-address : goal.release-requires-in-StorageRelease-clause-address
release-requires-in-StorageRelease-clause-address c = λ text e. let k = at_key c.args.self.now c.requires.read row.StorageRelease c.in-StorageRelease.is (codes "ADDR") text e in record { address = k.of_kind; range = k.within }

pub release_area-requires-clause-area : goal.release_area-requires-clause-area
release_area-requires-clause-area c = λ text e. let k = at_key c.args.self.now c.requires.read row.FreemainArea c.in-FreemainArea.is (codes "A") text e in k.of_kind

pub release_list-requires-clause-lengths : goal.release_list-requires-clause-lengths
release_list-requires-clause-lengths c = λ text e. let k = at_key c.args.self.now c.requires.read row.FreemainList c.in-FreemainList.is (codes "LA") text e in some_numbers text k.of_kind k.within

pub release_list-requires-clause-addresses : goal.release_list-requires-clause-addresses
release_list-requires-clause-addresses c = λ text e. let k = at_key c.args.self.now c.requires.read row.FreemainList c.in-FreemainList.is (codes "A") text e in some_locations text k.of_kind k.within

pub build-requires-clause-pool : goal.build-requires-clause-pool
build-requires-clause-pool c = λ text e. let k = at_key c.args.self.now c.requires.read row.CpoolBuild c.in-CpoolBuild.is (codes "CPID") text e in k.of_kind

pub build-requires-clause-size : goal.build-requires-clause-size
build-requires-clause-size c = λ text e. let k = at_key c.args.self.now c.requires.read row.CpoolBuild c.in-CpoolBuild.is (codes "CSIZE") text e in record { digits = k.of_kind; range = k.within }

pub build-requires-clause-count : goal.build-requires-clause-count
build-requires-clause-count c = λ text e. let k = at_key c.args.self.now c.requires.read row.CpoolBuild c.in-CpoolBuild.is (codes "PCELLCT") text e in record { digits = k.of_kind; range = k.within }

pub build-requires-clause-more : goal.build-requires-clause-more
build-requires-clause-more c = λ text e. let k = at_key c.args.self.now c.requires.read row.CpoolBuild c.in-CpoolBuild.is (codes "SCELLCT") text e in record { digits = k.of_kind; range = k.within }

pub get-requires-clause-pool : goal.get-requires-clause-pool
get-requires-clause-pool c = λ text e. let k = at_key c.args.self.now c.requires.read row.CpoolGet c.in-CpoolGet.is (codes "CPID") text e in k.of_kind

pub get-requires-clause-cell : goal.get-requires-clause-cell
get-requires-clause-cell c = λ text e. let k = at_key c.args.self.now c.requires.read row.CpoolGet c.in-CpoolGet.is (codes "CELL") text e in k.of_kind

pub free-requires-clause-pool : goal.free-requires-clause-pool
free-requires-clause-pool c = λ text e. let k = at_key c.args.self.now c.requires.read row.CpoolFree c.in-CpoolFree.is (codes "CPID") text e in k.of_kind

pub free-requires-clause-cell : goal.free-requires-clause-cell
free-requires-clause-cell c = λ text e. let k = at_key c.args.self.now c.requires.read row.CpoolFree c.in-CpoolFree.is (codes "CELL") text e in record { address = k.of_kind; range = k.within }

pub delete-requires-clause-pool : goal.delete-requires-clause-pool
delete-requires-clause-pool c = λ text e. let k = at_key c.args.self.now c.requires.read row.CpoolDelete c.in-CpoolDelete.is (codes "CPID") text e in k.of_kind

pub attach-requires-clause-name : goal.attach-requires-clause-name
attach-requires-clause-name c = λ text e. let k = at_key c.args.self.now c.requires.read row.Attach c.in-Attach.is (codes "TASK") text e in k.of_kind

pub abend-requires-clause-code : goal.abend-requires-clause-code
abend-requires-clause-code c = λ text e. let k = at_place c.args.self.now c.requires.read row.Abend c.in-Abend.is 0 text e in record { digits = k.of_kind; range = k.within }

pub put-requires-clause-to : goal.put-requires-clause-to
put-requires-clause-to c = λ text e. let k = at_place c.args.self.now c.requires.read row.Put c.in-Put.is 0 text e in record { address = k.of_kind; range = k.within }

pub put-requires-clause-bytes : goal.put-requires-clause-bytes
put-requires-clause-bytes c = λ text e. let k = at_place c.args.self.now c.requires.read row.Put c.in-Put.is 1 text e in some_bytes text k.of_kind k.within

pub show-requires-clause-from : goal.show-requires-clause-from
show-requires-clause-from c = λ text e. let k = at_place c.args.self.now c.requires.read row.Show c.in-Show.is 0 text e in record { address = k.of_kind; range = k.within }

pub show-requires-clause-len : goal.show-requires-clause-len
show-requires-clause-len c = λ text e. let k = at_place c.args.self.now c.requires.read row.Show c.in-Show.is 1 text e in record { digits = k.of_kind; range = k.within }

pub move_bytes-requires-clause-to : goal.move_bytes-requires-clause-to
move_bytes-requires-clause-to c = λ text e. let k = at_place c.args.self.now c.requires.read row.Move c.in-Move.is 0 text e in record { address = k.of_kind; range = k.within }

pub move_bytes-requires-clause-from : goal.move_bytes-requires-clause-from
move_bytes-requires-clause-from c = λ text e. let k = at_place c.args.self.now c.requires.read row.Move c.in-Move.is 1 text e in record { address = k.of_kind; range = k.within }

pub move_bytes-requires-clause-len : goal.move_bytes-requires-clause-len
move_bytes-requires-clause-len c = λ text e. let k = at_place c.args.self.now c.requires.read row.Move c.in-Move.is 2 text e in record { digits = k.of_kind; range = k.within }

pub ask_where-requires-clause-area : goal.ask_where-requires-clause-area
ask_where-requires-clause-area c = λ text e. let k = at_place c.args.self.now c.requires.read row.Where c.in-Where.is 0 text e in k.of_kind

pub attach-requires-clause-given : goal.attach-requires-clause-given
attach-requires-clause-given c = (gives_number c.args.self.now c.requires.read c.in-Attach.is, gives_list c.args.self.now c.requires.read c.in-Attach.is)

pub attach-requires-clause-shared : goal.attach-requires-clause-shared
attach-requires-clause-shared c = (shares_number c.args.self.now c.requires.read c.in-Attach.is, shares_list c.args.self.now c.requires.read c.in-Attach.is)

pub attach-requires-clause-one_given : goal.attach-requires-clause-one_given
attach-requires-clause-one_given c = (attach_apart c.args.self.now c.requires.read c.in-Attach.is c.requires.apart).one_given

pub attach-requires-clause-one_shared : goal.attach-requires-clause-one_shared
attach-requires-clause-one_shared c = (attach_apart c.args.self.now c.requires.read c.in-Attach.is c.requires.apart).one_shared

pub attach-requires-clause-apart : goal.attach-requires-clause-apart
attach-requires-clause-apart c = (attach_apart c.args.self.now c.requires.read c.in-Attach.is c.requires.apart).apart
