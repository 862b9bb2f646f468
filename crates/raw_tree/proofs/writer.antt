pub mod Decimals
pub mod Encodings
pub mod MeasuredMembers
pub mod MemberSteps
pub mod WrittenMembers
