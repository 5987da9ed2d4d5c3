-- The numbers by which refusals are printed.
use Rattle.std.specs.Prelude.{ℕ}
use Rattle.ac_types.specs.declared.refusals.TheConstants.{BAD_ID}
use Rattle.ac_types.specs.declared.fault.FaultKind.{FaultKind}
use Rattle.ac_types.specs.declared.fault.FaultKind.TheVariants.{Empty, BadByte, BadId, LabelTwice, LabelName, BadOs, BadArch, Missing, WrongKind, Fraction, OutOfRange, BadEnvName, BadPath, PortRange, BadHandler, NameTwice, NotJson, WrongAcKind, BadAcVersion, BadVolume, AppTwice, TooLong, NotAbsolute, DotSegment, SegmentLength, PathLength}

-- the number of each kind of fault
abbrev pub number_of : FaultKind → ℕ
number_of Empty = 1
number_of BadByte = 2
number_of BadId = BAD_ID
number_of LabelTwice = 5
number_of LabelName = 6
number_of BadOs = 7
number_of BadArch = 8
number_of Missing = 9
number_of WrongKind = 10
number_of Fraction = 11
number_of OutOfRange = 12
number_of BadEnvName = 13
number_of BadPath = 14
number_of PortRange = 15
number_of BadHandler = 16
number_of NameTwice = 17
number_of NotJson = 20
number_of WrongAcKind = 21
number_of BadAcVersion = 22
number_of BadVolume = 23
number_of AppTwice = 24
number_of TooLong = 25
number_of NotAbsolute = 30
number_of DotSegment = 31
number_of SegmentLength = 32
number_of PathLength = 33
