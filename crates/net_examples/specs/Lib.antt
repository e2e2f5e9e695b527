pub mod Boxes
pub mod Firewall
pub mod Forgetful
pub mod Loop
pub mod Overtaken
pub mod Wire
