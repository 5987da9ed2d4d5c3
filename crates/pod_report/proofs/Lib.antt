mod Ages
pub mod Asking
pub mod Reading
mod Leaving
mod Meeting
mod Telling
mod Results
pub mod Going
mod Alone
pub mod QuietSurvey
mod OnePlace
pub mod QuietLines
mod Listing
mod StatusTexts
mod StatusFiles
mod StatusParents
mod MissingDirectory
mod Greatest
mod TellingEnds
mod SeeingStatus
mod StatusMeeting
mod InspectionRounds
mod QuietStatus
mod SequentialReads
mod SequentialEnds
mod SequentialStatus
pub mod SameStatus
mod OwnReadings
mod SeenLines
