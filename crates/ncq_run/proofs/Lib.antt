mod EndLaws
pub mod Answering
pub mod OwnLaws
pub mod Outputs
pub mod FormLaws
pub mod TallyLaws
pub mod Turns
pub mod SinkLaws
pub mod WorkLaws
pub mod SecondTries
pub mod Answered
pub mod ClockLaws
