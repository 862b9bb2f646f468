pub mod EitherWay
pub mod ValidatedAt
pub mod ValidatedLevels
pub mod LevelKeys
pub mod NotCanonical
pub mod OneBreach
pub mod OneViolation
